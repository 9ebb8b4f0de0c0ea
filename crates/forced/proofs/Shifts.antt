-- The list of one status over a period: what keeps the status and what enters it stands in the new list, for no more than it costs, and nothing else does.
use mathlib.Core.Path.{◌≡◌, refl, ◌∙◌, ap, subst}
use mathlib.Core.Logic.{◌⊎◌, inl, inr}
use mathlib.Core.Bool.{Bool, true, false, cond}
use mathlib.Core.List.{List}
use Prim.Native.Nat.{ℕ, zero, suc, ◌+◌, ◌-◌, ◌≤◌, ◌<◌, min}
use native.Mathlib.Nat.{eq-or-lt_of_le}
use native.Mathlib.Decide.{dec_le}
use native.Mathlib.Omega.{arith}
use borrow.Author.Tests.{eqb-true, eq-eqb, ne_eqb}
use lib.Dec.{T, eqb}
use lib.ListN.{length, get_or-eq_default}
use Rattle.model.specs.Instance.{◌at◌}
use Rattle.model.specs.Walk.{plus, lesser}
use Rattle.model.specs.Table.{kept}
use Rattle.model.proofs.Coded.{plus_some, lesser_left, lesser_right, lesser_one}
use Rattle.model.proofs.WalkRuns.{move_inv}
use Rattle.forced.specs.Forward.{listed, Shifted}

-- a coded value that is there and at most z
abbrev pub Cheap : ℕ → ℕ → Type 0
Cheap y z = (0 < y) × (y ≤ z)

-- the value of a status that is allowed
pub kept_some : (c : Bool) (v x : ℕ) → T c → 0 < x → cond c (plus v x) 0 ≡ v + x
kept_some true v x t h = plus_some v x h
kept_some false v x t h = absurd t

-- a place with a value is one of the list
pub at_inside : (l : List ℕ) (k : ℕ) → 0 < l at k → k < length l
at_inside l k h = go (dec_le (length l) k)
  where
    go : Dec (length l ≤ k) → k < length l
    go (yes y) = absurd (omega (arith, get_or-eq_default l 0 {n = k} y))
    go (no y) = omega arith

-- from the place before it
pub before_next : (old : List ℕ) (entered : ℕ) (allowed : Bool) (v k : ℕ)
    → cond (eqb (suc k) 0) entered (kept allowed v (old at (suc k - 1))) ≡ kept allowed v (old at k)
before_next old entered allowed v k =
    let e : suc k - 1 ≡ k = omega arith in
    rw (ne_eqb (suc k) 0 (λ z. omega arith), e)

module _ {old new : List ℕ} {entered : ℕ} {allowed : Bool} {v : ℕ} (S : Shifted old new entered allowed v) where
  -- what enters comes first
  pub shift_enters : 0 < length old → (z : ℕ) → Cheap entered z → Cheap (listed new 1) z
  shift_enters l z h =
      omega (arith, S.each 0 l, lesser_left entered (cond (eqb 1 (length old)) (kept allowed v (old at 0)) 0) h.0, h.1)

  -- what stays goes one place on, but at the last one it stays
  pub shift_keeps : (i : ℕ) → i < length old → T allowed → 0 < old at i → Cheap (listed new (min (suc (suc i)) (length old))) (v + old at i)
  shift_keeps i l a h = go (eq-or-lt_of_le l)
    where
      value : kept allowed v (old at i) ≡ v + old at i
      value = kept_some allowed v (old at i) a h

      go : (suc i ≡ length old) ⊎ (suc i < length old) → Cheap (listed new (min (suc (suc i)) (length old))) (v + old at i)
      go (inl e) =
          let to : suc i ≡ min (suc (suc i)) (length old) = omega arith in
          let one = cond (eqb i 0) entered (kept allowed v (old at (i - 1))) in
          let is : new at i ≡ lesser one (kept allowed v (old at i)) =
          S.each i l ∙ ap (λ (c : Bool). lesser one (cond c (kept allowed v (old at i)) 0)) (eq-eqb (suc i) (length old) e) in
          subst (λ (k : ℕ). Cheap (listed new k) (v + old at i)) to
          (omega (arith, is, value, lesser_right one (kept allowed v (old at i)) (omega (arith, value))))
      go (inr e) =
          let to : suc (suc i) ≡ min (suc (suc i)) (length old) = omega arith in
          let two = cond (eqb (suc (suc i)) (length old)) (kept allowed v (old at (suc i))) 0 in
          let is : new at (suc i) ≡ lesser (kept allowed v (old at i)) two =
          S.each (suc i) e ∙ ap (λ (x : ℕ). lesser x two) (before_next old entered allowed v i) in
          subst (λ (k : ℕ). Cheap (listed new k) (v + old at i)) to
          (omega (arith, is, value, lesser_left (kept allowed v (old at i)) two (omega (arith, value))))

  -- a value at the place j has entered, or has been kept from a place
  abbrev pub Entered : ℕ → Type 0
  Entered j = (j ≡ 0) × (new at j ≡ entered)

  abbrev pub KeptFrom : ℕ → Type 0
  KeptFrom j = (i : ℕ) × (i < length old) × T allowed × (0 < old at i) × (min (suc (suc i)) (length old) ≡ suc j) × (new at j ≡ v + old at i)

  pub shift_from : (j : ℕ) → 0 < new at j → Entered j ⊎ KeptFrom j
  shift_from j h = go j h within (S.each j within) (lesser_one (first j) (second j))
    where
      within : j < length old
      within = omega (arith, at_inside new j h, S.same)

      first : ℕ → ℕ
      first j = cond (eqb j 0) entered (kept allowed v (old at (j - 1)))

      second : ℕ → ℕ
      second j = cond (eqb (suc j) (length old)) (kept allowed v (old at j)) 0

      stays : (j : ℕ) → 0 < new at j → j < length old → (c : Bool) → eqb (suc j) (length old) ≡ c → new at j ≡ cond c (kept allowed v (old at j)) 0 → KeptFrom j
      stays j h l true e is =
          let here : suc j ≡ length old = eqb-true (suc j) (length old) e in
          let i = move_inv allowed v (old at j) (omega (arith, is, h)) in
          (j, l, i.0, i.1, omega arith, is ∙ i.2)
      stays j h l false e is = absurd (omega (arith, is))

      go : (j : ℕ) → 0 < new at j → j < length old → new at j ≡ lesser (first j) (second j)
          → (lesser (first j) (second j) ≡ first j) ⊎ (lesser (first j) (second j) ≡ second j)
          → Entered j ⊎ KeptFrom j
      go zero h l is (inl e) = inl (omega arith, is ∙ e)
      go (suc i) h l is (inl e) =
          let from : new at (suc i) ≡ kept allowed v (old at i) = is ∙ e ∙ before_next old entered allowed v i in
          let k = move_inv allowed v (old at i) (omega (arith, from, h)) in
          inr (i, omega arith, k.0, k.1, omega arith, from ∙ k.2)
      go j h l is (inr e) = inr (stays j h l (eqb (suc j) (length old)) refl (is ∙ e))
