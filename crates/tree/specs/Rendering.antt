-- Document 01, Texts, and document 02, [1] and [6]: how a tree is written.
use Rattle.std.specs.Prelude.{Bool, ◌||◌, List, [], ◌∷◌, ◌++◌, ℕ, suc}
use Rattle.model.specs.Above.{Fork, status, count}
use Rattle.model.specs.Ramps.{RampPrices}
use Rattle.model.specs.Tree.{Leaf, short, crowd, stuck, price, ramp, Tree, leaf, fork}
use Rattle.text.specs.Lines.{begins, kind_tree, end_tree}
use Rattle.text.specs.Rendering.{plain_line, text_of}
use Rattle.text.specs.Writer.{writer_key}

-- split=
abbrev pub split_key : List ℕ
split_key = 115 ∷ 112 ∷ 108 ∷ 105 ∷ 116 ∷ 61 ∷ []

-- count=
abbrev pub count_key : List ℕ
count_key = 99 ∷ 111 ∷ 117 ∷ 110 ∷ 116 ∷ 61 ∷ []

-- short=
abbrev pub short_key : List ℕ
short_key = 115 ∷ 104 ∷ 111 ∷ 114 ∷ 116 ∷ 61 ∷ []

-- crowd=
abbrev pub crowd_key : List ℕ
crowd_key = 99 ∷ 114 ∷ 111 ∷ 119 ∷ 100 ∷ 61 ∷ []

-- stuck=
abbrev pub stuck_key : List ℕ
stuck_key = 115 ∷ 116 ∷ 117 ∷ 99 ∷ 107 ∷ 61 ∷ []

-- price=
abbrev pub price_key : List ℕ
price_key = 112 ∷ 114 ∷ 105 ∷ 99 ∷ 101 ∷ 61 ∷ []

-- reserve=
abbrev pub reserve_key : List ℕ
reserve_key = 114 ∷ 101 ∷ 115 ∷ 101 ∷ 114 ∷ 118 ∷ 101 ∷ 61 ∷ []

-- rampprice=
abbrev pub rampprice_key : List ℕ
rampprice_key = 114 ∷ 97 ∷ 109 ∷ 112 ∷ 112 ∷ 114 ∷ 105 ∷ 99 ∷ 101 ∷ 61 ∷ []

-- up=
abbrev pub up_key : List ℕ
up_key = 117 ∷ 112 ∷ 61 ∷ []

-- down=
abbrev pub down_key : List ℕ
down_key = 100 ∷ 111 ∷ 119 ∷ 110 ∷ 61 ∷ []

-- the line of a fork; in texts units and periods count from 1, and how many run is the number itself
abbrev pub fork_line : Fork → List ℕ
fork_line (status U t) = plain_line split_key (suc U ∷ suc t ∷ [])
fork_line (count t K) = plain_line count_key (suc t ∷ K ∷ [])

-- the lines of a ramp leaf's units, one after the other
abbrev pub step_lines : List RampPrices → List (List ℕ)
step_lines [] = []
step_lines (x ∷ l) = plain_line up_key x.up ∷ plain_line down_key x.down ∷ step_lines l

-- the lines of a leaf
abbrev pub leaf_lines : Leaf → List (List ℕ)
leaf_lines (short t) = plain_line short_key (suc t ∷ []) ∷ []
leaf_lines (crowd t) = plain_line crowd_key (suc t ∷ []) ∷ []
leaf_lines (stuck U) = plain_line stuck_key (suc U ∷ []) ∷ []
leaf_lines (price q s) = plain_line price_key q ∷ plain_line reserve_key s ∷ []
leaf_lines (ramp q s l) = plain_line rampprice_key q ∷ plain_line reserve_key s ∷ step_lines l

-- the lines of a tree, a fork's own before those of its trees
unfoldable pub node_lines : Tree → List (List ℕ)
node_lines (leaf l) = leaf_lines l
node_lines (fork f x y) = fork_line f ∷ (node_lines x ++ node_lines y)

-- a line that counts as a split: it has two trees below it
abbrev pub is_split_line : List ℕ → Bool
is_split_line b = begins split_key b || begins count_key b

-- the lines of the text after the first
abbrev pub lines_after : ℕ → Tree → List (List ℕ)
lines_after w t = plain_line writer_key (w ∷ []) ∷ (node_lines t ++ (end_tree ∷ []))

-- all lines of the text
abbrev pub tree_lines : ℕ → Tree → List (List ℕ)
tree_lines w t = kind_tree ∷ lines_after w t

-- the text of a tree by the writer w
unfoldable pub render : ℕ → Tree → List ℕ
render w t = text_of (tree_lines w t)
