-- A whole text, judged line by line: what is due at a line depends on the lines before it.
use Rattle.std.specs.Prelude.{ℕ, suc, List, [], ◌∷◌}
use Rattle.std.proofs.Math.Option.{Option, none, some}
use Rattle.text.specs.Lines.{Line}

-- what a line is found to be at its place: refused by a number, or good, with what is due after it
pub data Found (S : Type 0) : Type 0 where
  refused : ℕ → Found S
  good : S → Found S

-- the answer to a text: refused by a number at a line, or accepted with what it gives
pub data Judged (R : Type 0) : Type 0 where
  refused_at : ℕ → ℕ → Judged R
  accepted : R → Judged R

-- S says what is due, `judge` what the line at that place is found to be, `end` whether the text may end there and what it then gives
module _ {S R : Type 0} (judge : S → Line → Found S) (end : S → Option R) where
  abbrev pub at_end : ℕ → Option R → Judged R
  at_end l none = refused_at 12 l
  at_end l (some v) = accepted v

  abbrev pub at_line : ℕ → Found S → (S → Judged R) → Judged R
  at_line l (refused n) go = refused_at n l
  at_line l (good s) go = go s

  -- document 01, Numbers that come from the docket: line by line, from line l on, where s says what is due; a line that is missing is 12
  unfoldable pub judged_from : ℕ → S → List Line → Judged R
  judged_from l s [] = at_end l (end s)
  judged_from l s (x ∷ ls) = at_line l (judge s x) (λ s'. judged_from (suc l) s' ls)
