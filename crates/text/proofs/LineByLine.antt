-- Reading goes from line to line: a good line is passed, and what follows it is read with what is then due; a refused line ends it.
use Prim.Native.Nat.{ℕ, suc}
use native.Mathlib.Omega.{arith}
use mathlib.Core.Path.{◌≡◌, refl, sym, ap, ◌∙◌}
use mathlib.Core.Bool.{true, false}
use mathlib.Core.List.{List, [], ◌∷◌}
use mathlib.Core.Option.{Option, none}
use lib.ListN.{drop}
use Rattle.text.specs.Lines.{Line, missing, due, later, lines_of, line_at}
use Rattle.text.specs.Forms.{Form, form_refusal, place_after, form_tests}
use Rattle.text.specs.Forms as forms
use Rattle.text.specs.Course.{Found, refused, good, Judged, refused_at, judged_from}
use Rattle.text.specs.Tests.{Test, found}
use Rattle.text.proofs.Verdicts.{good_next, form_refused, form_found}

module _ {S R : Type 0} (judge : S → Line → Found S) (end : S → Option R) (missing_12 : (s : S) → judge s missing ≡ refused 12) (text : List ℕ) where
  -- the text from the place `at` on, where line l starts and s is due
  abbrev pub judged_at : ℕ → ℕ → S → Judged R
  judged_at at l s = judged_from judge end l s (lines_of (drop at text))

  module _ (at l : ℕ) (s : S) where
    abbrev here : Line
    here = line_at text at

    -- the first of the lines that are left decides, also where none is
    pub step_refused : end s ≡ none → (n : ℕ) → judge s here ≡ refused n → judged_at at l s ≡ refused_at n l
    unfolding judged_from
    step_refused ends n e = go (lines_of (drop at text)) e
      where
        go : (ls : List Line) → judge s (due ls) ≡ refused n → judged_from judge end l s ls ≡ refused_at n l
        go [] e =
            let z : refused 12 ≡ refused n = sym (missing_12 s) ∙ e in
            let q : 12 ≡ n = cc in
            rw (ends, ← q) refl
        go (x ∷ ls) e = rw e refl

    pub step_good : (s' : S) (place : ℕ) → judge s here ≡ good s' → lines_of (drop place text) ≡ later (lines_of (drop at text)) → judged_at at l s ≡ judged_at place (suc l) s'
    unfolding judged_from
    step_good s' place e k = go (lines_of (drop at text)) e ∙ ap (judged_from judge end (suc l) s') (sym k)
      where
        go : (ls : List Line) → judge s (due ls) ≡ good s' → judged_from judge end l s ls ≡ judged_from judge end (suc l) s' (later ls)
        go [] e = absurd (let z : refused 12 ≡ good s' = sym (missing_12 s) ∙ e in let y : ◌≡◌ {A = ℕ} 0 1 = cc in omega arith)
        go (x ∷ ls) e = rw e refl

    -- where a line of numbers is due
    module _ (f : Form) (ts : List Test) (s' : S) (tested : judge s here ≡ found (form_tests f here ts) s') where
      pub numbers_refused : end s ≡ none → forms.good_line f here ≡ false → judged_at at l s ≡ refused_at (form_refusal f here) l
      numbers_refused ends g = step_refused ends (form_refusal f here) (tested ∙ form_refused f here ts s' g)

      pub numbers_good : (t : S) → found ts s' ≡ good t → forms.good_line f here ≡ true → judged_at at l s ≡ judged_at (place_after here at) (suc l) t
      numbers_good t e g = step_good t (place_after here at) (tested ∙ form_found f here ts s' g ∙ e) (good_next f text at g)
