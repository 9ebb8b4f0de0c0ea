-- What document 01 says of a tree's text as a whole: what it gives, and when it is accepted, apart from any reader.
use Rattle.std.specs.Prelude.{◌≡◌, List, ℕ}
use Rattle.model.specs.Instance.{Instance}
use Rattle.model.specs.Ranges.{GoodWriter}
use Rattle.model.specs.Above.{root}
use Rattle.model.specs.declared.figures.TreeFigures.{TreeFigures}
use Rattle.model.specs.Tree.{Tree, Limits, Holds, tree_figures}
use Rattle.tree.specs.Rendering.{render}

-- the writer of a tree, and what the tree gives, or the part of it that is read
pub record Bounded : Type 0 where
  pub writer : ℕ
  pub figures : TreeFigures

abbrev pub bounded : ℕ → TreeFigures → Bounded
bounded w F = record { writer = w; figures = F }

-- the text is that of a tree within the limits, whose leaves hold, and the figures are the tree's
pub record Accepts (P : Instance) (text : List ℕ) (F : Bounded) : Type 0 where
  pub tree : Tree
  pub written : text ≡ render F.writer tree
  pub writer_in : GoodWriter F.writer
  pub within : Limits P root 0 tree
  pub holds : Holds P root tree
  pub figures : F.figures ≡ tree_figures P tree
