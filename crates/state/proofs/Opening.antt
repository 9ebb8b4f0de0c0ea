-- Slices that hold a docket hold a sound one.
use Rattle.std.specs.Prelude.{Result, Ok, Err}
use native.Mathlib.Omega.{arith}
use mathlib.Core.Path.{◌≡◌, refl, sym, ap, ◌∙◌}
use mathlib.Core.Bool.{Bool, true, false, cond}
use mathlib.Core.List.{List}
use mathlib.Core.Logic.{◌↔◌, ◌⊎◌, inl, inr}
use Prim.Native.Nat.{ℕ}
use lib.Dec.{eqb}
use borrow.Author.Tests.{eqb-true, eq-eqb, ne_eqb}
use Rattle.model.specs.Instance.{◌at◌}
use Rattle.docket.specs.Docket.{sound}
use Rattle.docket.specs.declared.Docket.{Docket}
use Rattle.state.specs.Layout.{layout_mark, docket_in}
use Rattle.state.specs.Kept.{holds, opened}
use Rattle.state.proofs.Room.{clash}

module _ (v w : List ℕ) where
  pub holds_sound : holds v w ≡ true → sound (docket_in v w) ≡ true
  unfolding holds
  holds_sound e = go (eqb (v at 0) layout_mark) e
    where
      go : (t : Bool) → cond t (sound (docket_in v w)) false ≡ true → sound (docket_in v w) ≡ true
      go true k = k
      go false k = clash k

  holds_mark : holds v w ≡ true → v at 0 ≡ layout_mark
  unfolding holds
  holds_mark e = go (eqb (v at 0) layout_mark) refl e
    where
      go : (t : Bool) → eqb (v at 0) layout_mark ≡ t → cond t (sound (docket_in v w)) false ≡ true → v at 0 ≡ layout_mark
      go true h k = eqb-true (v at 0) layout_mark h
      go false h k = clash k

  pub holds_is : (holds v w ≡ true) ↔ ((v at 0 ≡ layout_mark) × (sound (docket_in v w) ≡ true))
  unfolding holds
  holds_is = ((λ e. (holds_mark e, holds_sound e)), (λ h. rw (eq-eqb (v at 0) layout_mark h.0, h.1) refl))

  not_marked : (v at 0 ≡ layout_mark → ⊥) → holds v w ≡ false
  unfolding holds
  not_marked n = rw (ne_eqb (v at 0) layout_mark n) refl

  not_sound : sound (docket_in v w) ≡ false → holds v w ≡ false
  unfolding holds
  not_sound e = go (eqb (v at 0) layout_mark)
    where
      go : (t : Bool) → cond t (sound (docket_in v w)) false ≡ false
      go true = e
      go false = refl

  -- a docket is opened, or is none
  module _ (d : Docket) (e : d ≡ docket_in v w) where
    pub opened_some : v at 0 ≡ layout_mark → sound d ≡ true → Ok d ≡ opened v w
    opened_some m s =
        ap Ok e ∙ sym (ap (λ (t : Bool). cond t (Ok (docket_in v w)) (Err (docket_in v w))) (holds_is.1 (m, ap sound (sym e) ∙ s)))

    pub opened_none : (v at 0 ≡ layout_mark → ⊥) ⊎ (sound d ≡ false) → Err d ≡ opened v w
    opened_none (inl n) = ap Err e ∙ sym (ap (λ (t : Bool). cond t (Ok (docket_in v w)) (Err (docket_in v w))) (not_marked n))
    opened_none (inr n) = ap Err e ∙ sym (ap (λ (t : Bool). cond t (Ok (docket_in v w)) (Err (docket_in v w))) (not_sound (ap sound (sym e) ∙ n)))

  -- a docket that was opened
  pub opened_is : (x : Result Docket Docket) (d : Docket) → x ≡ opened v w → x ≡ Ok d → (holds v w ≡ true) × (d ≡ docket_in v w)
  opened_is x d e k = go (holds v w) refl (sym k ∙ e)
    where
      go : (t : Bool) → holds v w ≡ t → Ok d ≡ cond t (Ok (docket_in v w)) (Err (docket_in v w)) → (holds v w ≡ true) × (d ≡ docket_in v w)
      go true h s = (h, cc)
      go false h s = let z : ◌≡◌ {A = ℕ} 0 1 = cc in absurd (omega arith)

  -- and where none was, what the slices decode to
  pub not_opened : (x : Result Docket Docket) (d : Docket) → x ≡ opened v w → x ≡ Err d → (holds v w ≡ false) × (d ≡ docket_in v w)
  not_opened x d e k = go (holds v w) refl (sym k ∙ e)
    where
      go : (t : Bool) → holds v w ≡ t → Err d ≡ cond t (Ok (docket_in v w)) (Err (docket_in v w)) → (holds v w ≡ false) × (d ≡ docket_in v w)
      go true h s = let z : ◌≡◌ {A = ℕ} 0 1 = cc in absurd (omega arith)
      go false h s = (h, cc)
