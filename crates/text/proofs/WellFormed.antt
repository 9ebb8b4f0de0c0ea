-- Lines that no number refuses all pass; and a line that passes its tests passes those of the form.
use Prim.Native.Nat.{ℕ}
use native.Mathlib.Omega.{arith}
use mathlib.Core.Path.{◌≡◌, refl, sym, ◌∙◌}
use mathlib.Core.Bool.{Bool, true, false, cond}
use mathlib.Core.List.{List, [], ◌∷◌}
use mathlib.Core.Option.{Option}
use Rattle.text.specs.Lines.{Line}
use Rattle.text.specs.Course.{Judged, refused_at, accepted, judged_from}
use Rattle.text.specs.Tests.{Test, ◌if◌, None, StopsAt, AllPassed}
use Rattle.text.specs.WellFormed.{of_form}
use Rattle.text.proofs.Courses as courses

-- of the tests of a line those of 12 to 15, 31, 32 and 37
abbrev pub form_only : List Test → List Test
form_only [] = []
form_only (n if b ∷ ts) = cond (of_form n) (n if b ∷ form_only ts) (form_only ts)

pub none_of_form : (ts : List Test) → None ts → None (form_only ts)
none_of_form [] h = tt
none_of_form (n if b ∷ ts) h = go (of_form n) (none_of_form ts h.1)
  where
    go : (c : Bool) → None (form_only ts) → None (cond c (n if b ∷ form_only ts) (form_only ts))
    go true r = (h.0, r)
    go false r = r

module _ {S R : Type 0} (tests : S → Line → List Test) (next_due : S → Line → S) (end : S → Option R) (l : ℕ) (s : S) (ls : List Line) where
  pub unrefused_passed : ((n m : ℕ) → StopsAt tests next_due end n m l s ls → ⊥) → (v : R) × AllPassed tests next_due end v s ls
  unrefused_passed h = go (judged_from (courses.judge tests next_due end) end l s ls) refl
    where
      go : (j : Judged R) → judged_from (courses.judge tests next_due end) end l s ls ≡ j → (v : R) × AllPassed tests next_due end v s ls
      go (refused_at n m) e = absurd (h n m ((courses.refused_is tests next_due end n m l s ls).0 e))
      go (accepted v) e = (v, (courses.accepted_is tests next_due end v l s ls).0 e)

  pub passed_unrefused : (v : R) → AllPassed tests next_due end v s ls → (n m : ℕ) → StopsAt tests next_due end n m l s ls → ⊥
  passed_unrefused v a n m r =
      let p = (courses.accepted_is tests next_due end v l s ls).1 a in
      let q = (courses.refused_is tests next_due end n m l s ls).1 r in
      let e = sym p ∙ q in
      let z : ◌≡◌ {A = ℕ} 0 1 = cc in
      omega arith
