-- Document 01, Texts, and document 02, [1]: well-formed, for a tree. A line after a leaf that fails (33 to 36) is judged too: its place is the same.
use Rattle.std.specs.Prelude.{ℕ, List}
use Rattle.model.specs.Instance.{Instance}
use Rattle.text.specs.Lines.{kind_tree}
use Rattle.text.specs.WellFormed.{Formed}
use Rattle.tree.specs.Refusals.{BrokenAt}

abbrev pub WellFormed : Instance → List ℕ → Type 0
WellFormed P text = Formed kind_tree (BrokenAt P) text
