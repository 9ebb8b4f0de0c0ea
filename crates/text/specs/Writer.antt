-- Document 01, Texts: the writer line of a schedule and of a tree.
use Rattle.std.specs.Prelude.{ℕ, List, [], ◌∷◌}
use Rattle.text.specs.Forms.{Form, plain}

-- writer=
abbrev pub writer_key : List ℕ
writer_key = 119 ∷ 114 ∷ 105 ∷ 116 ∷ 101 ∷ 114 ∷ 61 ∷ []

-- one writer, 1 to 65,535
abbrev pub writer_form : Form
writer_form = plain writer_key 1 1 65535
