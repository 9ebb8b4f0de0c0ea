-- Document 01, The docket and its report: what an accepted tree gives, a bound and two counts.
use Rattle.std.specs.Prelude.{ℕ, ◌+◌, ℤ, Option}
use Rattle.model.specs.Leaf.{minℤ}
use Rattle.std.specs.Prelude.{None as never, Some as number}
use Rattle.model.specs.declared.figures.TreeFigures.{TreeFigures}

-- the smallest value of the price leaves and ramp leaves, a number, or that there is none, never
abbrev pub Bound : Type 0
Bound = Option ℤ

-- the smaller of two bounds, never being above every number
abbrev pub lower : Bound → Bound → Bound
lower never y = y
lower (number x) never = number x
lower (number x) (number y) = number (minℤ x y)

-- what a tree with this bound, so many split lines and so many leaves gives
abbrev pub tree_gives : (b : Bound) (splits leaves : ℕ) → TreeFigures
tree_gives b m n = record { bound = b; splits = m; leaves = n }

-- where no node is read yet
abbrev pub no_figures : TreeFigures
no_figures = tree_gives never 0 0

-- with one split line more
abbrev pub add_split : TreeFigures → TreeFigures
add_split F = tree_gives F.bound (F.splits + 1) F.leaves

-- with one leaf more, which has the bound b
abbrev pub add_leaf : TreeFigures → Bound → TreeFigures
add_leaf F b = tree_gives (lower F.bound b) F.splits (F.leaves + 1)
