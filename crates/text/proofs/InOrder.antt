-- Document 01, Numbers that come from the docket: the order in which the numbers that may refuse a line are tried.
use Prim.Native.Nat.{ℕ}
use mathlib.Core.List.{List, [], ◌∷◌}
use Rattle.text.specs.Lines.{Line}
use Rattle.text.specs.Forms.{Form, form_tests, word_tests, nothing_tests}
use Rattle.text.specs.Tests.{Test, ◌if◌}

-- after those of the form: 15, and 31 to 37
abbrev pub after_form : List ℕ
after_form = 15 ∷ 31 ∷ 32 ∷ 33 ∷ 34 ∷ 35 ∷ 36 ∷ 37 ∷ []

abbrev pub paper_order : List ℕ
paper_order = 12 ∷ 14 ∷ 13 ∷ after_form

-- the first list is the second with some left out
pub data InTurn : List ℕ → List ℕ → Type 0 where
  no_more : {ms : List ℕ} → InTurn [] ms
  taken : {m : ℕ} {ns ms : List ℕ} → InTurn ns ms → InTurn (m ∷ ns) (m ∷ ms)
  left_out : {m : ℕ} {ns ms : List ℕ} → InTurn ns ms → InTurn ns (m ∷ ms)

-- the numbers of tests, in turn
abbrev pub numbers : List Test → List ℕ
numbers [] = []
numbers (n if b ∷ ts) = n ∷ numbers ts

abbrev pub InOrder : List Test → Type 0
InOrder ts = InTurn (numbers ts) paper_order

pub form_in_order : (f : Form) (l : Line) (ts : List Test) → InTurn (numbers ts) after_form → InOrder (form_tests f l ts)
form_in_order f l ts h = taken (taken (taken h))

pub word_in_order : (w : List ℕ) (l : Line) → InOrder (word_tests w l)
word_in_order w l = taken no_more

pub nothing_in_order : InOrder nothing_tests
nothing_in_order = taken no_more
