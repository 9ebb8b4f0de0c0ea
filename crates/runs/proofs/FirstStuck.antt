-- The first unit that is stuck: it is stuck, those before it are not, and where none is it is past the last.
use mathlib.Core.Path.{◌≡◌, refl, ap}
use mathlib.Core.Bool.{Bool, true, false, cond, ◌||◌}
use mathlib.Core.List.{List, [], ◌∷◌}
use Prim.Native.Nat.{ℕ, zero, suc, ◌<◌}
use native.Mathlib.Omega.{arith}
use lib.Dec.{T}
use lib.ListN.{length}
use Rattle.model.specs.declared.generator.Generator.{Generator}
use Rattle.model.specs.Above.{Marks, rest}
use Rattle.model.specs.Leaf.{is_stuck, stuck_at, any_stuck}
use Rattle.model.specs.Runs.{first_stuck}

module _ (n : ℕ) where
  -- where one is stuck
  pub first_stuck_found : (gs : List Generator) (m : Marks) → any_stuck n gs m ≡ true → T (stuck_at n gs m (first_stuck n gs m)) × (first_stuck n gs m < length gs)
  unfolding first_stuck
  first_stuck_found [] m e = absurd (let i : ◌≡◌ {A = ℕ} 0 1 = cc in omega arith)
  first_stuck_found (g ∷ gs) m e = go (is_stuck n g (m 0)) refl e (first_stuck_found gs (rest m))
    where
      go : (b : Bool) → is_stuck n g (m 0) ≡ b → (b || any_stuck n gs (rest m)) ≡ true
          → (any_stuck n gs (rest m) ≡ true → T (stuck_at n gs (rest m) (first_stuck n gs (rest m))) × (first_stuck n gs (rest m) < length gs))
          → T (stuck_at n (g ∷ gs) m (cond b 0 (suc (first_stuck n gs (rest m))))) × (cond b 0 (suc (first_stuck n gs (rest m))) < suc (length gs))
      go true i e h = (rw i tt, omega arith)
      go false i e h = ((h e).0, omega (arith, (h e).1))

  -- those before it
  pub none_before : (gs : List Generator) (m : Marks) (u : ℕ) → u < first_stuck n gs m → stuck_at n gs m u ≡ false
  unfolding first_stuck
  none_before [] m u h = refl
  none_before (g ∷ gs) m u h = go (is_stuck n g (m 0)) refl u h (none_before gs (rest m))
    where
      go : (b : Bool) → is_stuck n g (m 0) ≡ b → (u : ℕ) → u < cond b 0 (suc (first_stuck n gs (rest m)))
          → ((u : ℕ) → u < first_stuck n gs (rest m) → stuck_at n gs (rest m) u ≡ false) → stuck_at n (g ∷ gs) m u ≡ false
      go true i u h k = absurd (omega arith)
      go false i zero h k = i
      go false i (suc u) h k = k u (omega arith)

  -- where none is
  pub none_stuck : (gs : List Generator) (m : Marks) → any_stuck n gs m ≡ false → first_stuck n gs m ≡ length gs
  unfolding first_stuck
  none_stuck [] m e = refl
  none_stuck (g ∷ gs) m e = go (is_stuck n g (m 0)) e (none_stuck gs (rest m))
    where
      go : (b : Bool) → (b || any_stuck n gs (rest m)) ≡ false → (any_stuck n gs (rest m) ≡ false → first_stuck n gs (rest m) ≡ length gs)
          → cond b 0 (suc (first_stuck n gs (rest m))) ≡ suc (length gs)
      go true e h = absurd (let i : ◌≡◌ {A = ℕ} 0 1 = cc in omega arith)
      go false e h = ap suc (h e)

  -- ---- as the code looks for it: none of the units before u is stuck

  abbrev pub Free : List Generator → Marks → ℕ → Type 0
  Free gs m u = (k : ℕ) → k < u → stuck_at n gs m k ≡ false

  -- the next one is
  pub stuck_here : (gs : List Generator) (m : Marks) (u : ℕ) → Free gs m u → stuck_at n gs m u ≡ true → first_stuck n gs m ≡ u
  unfolding first_stuck
  stuck_here [] m u f e = absurd (let i : ◌≡◌ {A = ℕ} 0 1 = cc in omega arith)
  stuck_here (g ∷ gs) m zero f e = rw e refl
  stuck_here (g ∷ gs) m (suc u) f e = rw (f 0 (omega arith)) (ap suc (stuck_here gs (rest m) u (λ k h. f (suc k) (omega arith)) e))

  -- there is none
  pub all_free : (gs : List Generator) (m : Marks) → Free gs m (length gs) → first_stuck n gs m ≡ length gs
  unfolding first_stuck
  all_free [] m f = refl
  all_free (g ∷ gs) m f = rw (f 0 (omega arith)) (ap suc (all_free gs (rest m) (λ k h. f (suc k) (omega arith))))
