-- The tests that the search for a breach uses, of one unit's row in one period, are the rules (4), (5) to (10), (11) and (12).
use mathlib.Core.Bool.{Bool, true, false, not, ◌&&◌}
use mathlib.Core.Logic.{◌↔◌}
use mathlib.Core.List.{List, [], ◌∷◌}
use Prim.Native.Nat.{ℕ, zero, suc, ◌+◌, ◌<◌}
use native.Mathlib.Omega.{arith}
use lib.Dec.{T, leb, leb→le, le→leb, T_not, not_T}
use lib.ListN.{take}
use Rattle.model.specs.declared.generator.Generator.{Generator}
use Rattle.model.specs.Instance.{◌at◌}
use Rattle.model.specs.Rules.{on, Within, permits, spent, keeps}
use Rattle.model.specs.Breach.{off_limits, not_permitted, too_steep}
use Rattle.model.proofs.Tests.{T_and, T_and_l, T_and_r}
use Rattle.model.specs.Broken.{FirstBarred, OffRamp}

-- what cannot fail holds, of a test
pub T_stable : (c : Bool) → ((T c → ⊥) → ⊥) → T c
T_stable true h = tt
T_stable false h = h (λ k. k)

-- c, and not both a and b
breaks_one : (c a b : Bool) → T (c && not (a && b)) ↔ (T c × (T a × T b → ⊥))
breaks_one c a b = (
  λ h. (T_and_l c (not (a && b)) h, λ k. T_not (a && b) (T_and_r c (not (a && b)) h) (T_and a b k.0 k.1)),
  λ h. T_and c (not (a && b)) h.0 (not_T (a && b) (λ k. h.1 (T_and_l a b k, T_and_r a b k))),
)

-- (4)
pub off_limits_is : (t : ℕ) (g : Generator) (r : List ℕ) → T (off_limits t g r) ↔ (Within g (r at t) → ⊥)
off_limits_is t g r = (
  λ h w. let k = test.0 h in k.1 (le→leb g.pL p (w k.0).0, le→leb p g.pU (w k.0).1),
  λ h. test.1 (
    T_stable (on p) (λ n. h (λ k. absurd (n k))),
    λ k. h (λ j. (leb→le g.pL p k.0, leb→le p g.pU k.1)),
  ),
)
  where
    p : ℕ
    p = r at t

    test : T (off_limits t g r) ↔ (T (on p) × (T (leb g.pL p) × T (leb p g.pU) → ⊥))
    test = breaks_one (on p) (leb g.pL p) (leb p g.pU)

-- (11), (12)
pub too_steep_is : (g : Generator) (b : Bool) (p p' : ℕ) → T (too_steep g b p p') ↔ OffRamp g b p p'
too_steep_is g b p p' = (
  λ h. let k = test.0 h in record {
    on_before = T_and_l b (on p') k.0;
    on_then = T_and_r b (on p') k.0;
    off = λ R. k.1 (le→leb p' (p + g.UR) R.rise, le→leb p (p' + g.DR) R.fall);
  },
  λ h. test.1 (
    T_and b (on p') h.on_before h.on_then,
    λ k. h.off (record { rise = leb→le p' (p + g.UR) k.0; fall = leb→le p (p' + g.DR) k.1 }),
  ),
)
  where
    test : T (too_steep g b p p') ↔ (T (b && on p') × (T (leb p' (p + g.UR)) × T (leb p (p' + g.DR)) → ⊥))
    test = breaks_one (b && on p') (leb p' (p + g.UR)) (leb p (p' + g.DR))

-- ---- (5) to (10), after k periods in the status b

-- a status not permitted, all before it being permitted
not_permitted_bars : (g : Generator) (b : Bool) (k : ℕ) (run : List Bool) (t : ℕ) → T (not_permitted g b k run t)
    → ((i : ℕ) → i < t → T (not_permitted g b k run i) → ⊥)
    → T (keeps g b k (take t run)) × (T (keeps g b k (take (suc t) run)) → ⊥)
not_permitted_bars g b k [] t h before = absurd h
not_permitted_bars g b k (d ∷ run) zero h before = (tt, λ j. T_not (permits g b k d) h (T_and_l (permits g b k d) true j))
not_permitted_bars g b k (d ∷ run) (suc t) h before =
    let later = not_permitted_bars g d (spent b k d) run t h (λ i l j. before (suc i) (omega arith) j) in
    let permitted = T_stable (permits g b k d) (λ n. before 0 (omega arith) (not_T (permits g b k d) n)) in (
      T_and (permits g b k d) (keeps g d (spent b k d) (take t run)) permitted later.0,
      λ j. later.1 (T_and_r (permits g b k d) (keeps g d (spent b k d) (take (suc t) run)) j),
    )

bars_not_permitted : (g : Generator) (b : Bool) (k : ℕ) (run : List Bool) (t : ℕ) → T (keeps g b k (take t run))
    → (T (keeps g b k (take (suc t) run)) → ⊥) → T (not_permitted g b k run t)
bars_not_permitted g b k [] t h n = n tt
bars_not_permitted g b k (d ∷ run) zero h n = not_T (permits g b k d) (λ j. n (T_and (permits g b k d) true j tt))
bars_not_permitted g b k (d ∷ run) (suc t) h n =
    bars_not_permitted g d (spent b k d) run t
    (T_and_r (permits g b k d) (keeps g d (spent b k d) (take t run)) h)
    (λ j. n (T_and (permits g b k d) (keeps g d (spent b k d) (take (suc t) run))
    (T_and_l (permits g b k d) (keeps g d (spent b k d) (take t run)) h) j))

module _ (g : Generator) (run : List Bool) (t : ℕ) where
  pub first_barred : T (not_permitted g g.on g.since run t)
      → ((i : ℕ) → i < t → T (not_permitted g g.on g.since run i) → ⊥) → FirstBarred g run t
  first_barred h before =
      let k = not_permitted_bars g g.on g.since run t h before in
      record { before = k.0; barred = k.1 }

  pub barred_not_permitted : FirstBarred g run t → T (not_permitted g g.on g.since run t)
  barred_not_permitted h = bars_not_permitted g g.on g.since run t h.before h.barred
