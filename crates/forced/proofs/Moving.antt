-- The states of one status taken one place on, from the last to the first in place, and what the table then holds.
use mathlib.Core.Path.{◌≡◌, refl, sym, ◌∙◌, ap}
use mathlib.Core.Bool.{Bool, true, false, not, cond}
use mathlib.Core.List.{List}
use Prim.Native.Nat.{ℕ, zero, suc, ◌+◌, ◌-◌, ◌≤◌, ◌<◌, min}
use native.Mathlib.Omega.{arith}
use borrow.Author.Tests.{eq-eqb, ne_eqb}
use lib.Dec.{T, leb, leb→le, nleb→lt, eqb}
use lib.ListN.{length, set, length-set}
use lib.Seq.{get_or-set_same, get_or-set_other}
use Rattle.model.specs.Instance.{◌at◌}
use Rattle.model.specs.Walk.{plus, lesser}
use Rattle.model.specs.Table.{kept}
use Rattle.model.proofs.Coded.{lesser_none}
use Rattle.forced.specs.Forward.{Beyond, Moved, shift_at, Shifted}

-- ---- from the last to the first

-- the entries from the place i up to top have been moved, those up to i not yet
pub record Moving (old new : List ℕ) (i top : ℕ) (allowed : Bool) (v : ℕ) : Type 0 where
  pub same : length new ≡ length old
  pub below : (k : ℕ) → k ≤ i → new at k ≡ old at k
  pub inside : (k : ℕ) → i ≤ k → k < top → new at (suc k) ≡ kept allowed v (old at k)
  pub above : (k : ℕ) → top < k → new at k ≡ old at k

-- ---- the whole status

-- nothing is kept of a state that has no value
kept_none : (allowed : Bool) (v : ℕ) → kept allowed v 0 ≡ 0
unfolding plus
kept_none true v = refl
kept_none false v = refl

module _ (old mid : List ℕ) (t end entered : ℕ) (allowed : Bool) (v : ℕ) (long : length old ≡ end + 1) (none : Beyond t old) (M : Moved old mid (min t end) allowed v) where
  -- what is moved, with what enters the status at the first place: the states that are not moved have nothing to move
  entered_at : (k : ℕ) → k ≤ end → (set mid 0 entered) at k ≡ cond (eqb k 0) entered (kept allowed v (old at (k - 1)))
  entered_at zero h = get_or-set_same mid 0 entered 0 (omega (arith, M.same))
  entered_at (suc j) h =
      let e : suc j - 1 ≡ j = omega arith in
      rw (ne_eqb (suc j) 0 (λ e. omega arith), e)
      (get_or-set_other mid 0 (suc j) entered 0 (omega arith) ∙ go (leb t j) (λ i. leb→le t j i) (λ i. nleb→lt t j i))
    where
      go : (c : Bool) → (T c → t ≤ j) → (T (not c) → j < t) → mid at (suc j) ≡ kept allowed v (old at j)
      go true f g =
          M.above (suc j) (omega (arith, f tt)) ∙ none (suc j) (omega (arith, f tt)) ∙ sym (kept_none allowed v)
          ∙ ap (kept allowed v) (sym (none j (f tt)))
      go false f g = M.inside j (omega (arith, g tt))

  -- the last state also has its own value
  pub shifted_is : (x : ℕ) → x ≡ lesser ((set mid 0 entered) at end) (kept allowed v (old at end))
      → Shifted old (set (set mid 0 entered) end x) entered allowed v
  shifted_is x e = record { same = length-set (set mid 0 entered) end x ∙ length-set mid 0 entered ∙ M.same; each = each }
    where
      each : (k : ℕ) → k < length old → (set (set mid 0 entered) end x) at k ≡ shift_at old entered allowed v k
      each k l = go (leb end k) (λ i. leb→le end k i) (λ i. nleb→lt end k i)
        where
          go : (c : Bool) → (T c → end ≤ k) → (T (not c) → k < end) → (set (set mid 0 entered) end x) at k ≡ shift_at old entered allowed v k
          go true f g =
              let k_is : k ≡ end = omega (arith, f tt) in
              let there : end < length (set mid 0 entered) = omega (arith, length-set mid 0 entered, M.same) in
              rw (eq-eqb (suc k) (length old) (omega arith), k_is)
              (get_or-set_same (set mid 0 entered) end x 0 there ∙ e ∙ ap (λ (y : ℕ). lesser y (kept allowed v (old at end))) (entered_at end (omega arith)))
          go false f g =
              let inside : k < end = g tt in
              rw (ne_eqb (suc k) (length old) (λ e. omega arith), lesser_none)
              (get_or-set_other (set mid 0 entered) end k x 0 (omega arith) ∙ entered_at k (omega arith))
