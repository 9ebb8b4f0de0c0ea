-- The breach found is the first: a rule broken is a test failed, and the first test failed is a rule broken. For 24 that takes
-- the word first: a status may be barred again after the first that is. None is found exactly when the rules are met.
use mathlib.Core.Path.{◌≡◌, refl, sym, subst}
use mathlib.Core.Bool.{not}
use mathlib.Core.Option.{Option, none, some}
use mathlib.Core.Logic.{inl, inr, ◌↔◌}
use Prim.Native.Nat.{ℕ, zero, suc, ◌<◌}
use native.Mathlib.Omega.{arith}
use lib.Dec.{T, leb, leb→le, nleb→lt, not_T}
use Rattle.model.specs.Instance.{Instance, Schedule, ◌at◌}
use Rattle.model.specs.Ranges.{Shaped}
use Rattle.model.specs.Rules.{on, statuses, Meets}
use Rattle.model.specs.Breach.{Breach, off_ramp, first_breach}
use Rattle.model.specs.Broken.{Of, Broken, limits, demand, spare, updown, ramps, midnight, Lower, Earliest}
use Rattle.model.proofs.OneUnit.{counted_unit, of_map, of_first}
use Rattle.model.proofs.Searches.{spot}
use Rattle.model.proofs.Lowest.{breach_is, firsts, only_first}
use Rattle.model.proofs.Failures.{barred, Fails, fails_first}
use Rattle.model.proofs.RuleTests.{off_limits_is, too_steep_is, first_barred, barred_not_permitted}
use Rattle.model.proofs.Unbroken.{meets_unbroken, unbroken_meets}

-- ---- rules and tests

not_leb : {a b : ℕ} → b < a → T (not (leb a b))
not_leb {a} {b} h = not_T (leb a b) (λ k. omega (arith, leb→le a b k))

module _ (P : Instance) (s : Schedule) where
  -- a rule broken is a test that fails
  pub broken_fails : (b : Breach) → Broken P s b → Fails P s b
  broken_fails b (limits u t l h) = inl (refl, spot t l (of_map _ _ (λ g r. (off_limits_is t g r).1) u P.units s h))
  broken_fails b (demand t l h) = inr (inl (refl, spot t l (refl, not_leb h)))
  broken_fails b (spare t l h) = inr (inr (inl (refl, spot t l (refl, not_leb h))))
  broken_fails b (updown u t l h) =
      inr (inr (inr (inl (refl, spot t l (of_map _ _ (λ g r. barred_not_permitted g (statuses r) t) u P.units s h)))))
  broken_fails b (ramps u t l h) =
      inr (inr (inr (inr (inl (
        refl,
        spot (suc t) l
            (of_map _ _ (λ g r. (too_steep_is g (on (r at t)) (r at t) (r at suc t)).1) u P.units s h),
      )))))
  broken_fails b (midnight u l h) =
      inr (inr (inr (inr (inl (refl, spot 0 l (of_map _ _ (λ g r. (too_steep_is g g.on g.p0 (r at 0)).1) u P.units s h))))))

  -- a test that fails, none lower failing, is a rule broken
  pub fails_broken : (b : Breach) → Fails P s b → ((c : Breach) → Lower c b → Fails P s c → ⊥) → Broken P s b
  fails_broken b (inl (e, x)) n =
      let k = counted_unit _ _ x.hit in
      rw (breach_is b e k.1 x.period_is)
      (limits k.0 x.t x.inside (of_map _ _ (λ g r. (off_limits_is x.t g r).0) k.0 P.units s k.2))
  fails_broken b (inr (inl (e, x))) n =
      rw (breach_is b e x.hit.0 x.period_is) (demand x.t x.inside (nleb→lt _ _ x.hit.1))
  fails_broken b (inr (inr (inl (e, x)))) n =
      rw (breach_is b e x.hit.0 x.period_is) (spare x.t x.inside (nleb→lt _ _ x.hit.1))
  fails_broken b (inr (inr (inr (inl (e, x))))) n =
      let k = counted_unit _ _ x.hit in
      let first = of_first (λ t g r. T (barred t g r)) x.t k.0 P.units s k.2 (λ i l h.
      n (record { number = 24; unit = suc k.0; period = suc i }) (inr (sym e, inl (omega (arith, x.period_is))))
      (inr (inr (inr (inl (refl, spot i (omega (arith, x.inside)) h)))))) in
      rw (breach_is b e k.1 x.period_is)
      (updown k.0 x.t x.inside
      (of_map _ _ (λ g r h. first_barred g (statuses r) x.t h.0 h.1) k.0 P.units s first))
  fails_broken b (inr (inr (inr (inr (inl (e, x)))))) n =
      let k = counted_unit _ _ x.hit in
      rw (breach_is b e k.1 x.period_is) (ramp k.0 x.t x.inside k.2)
    where
      ramp : (u t : ℕ) → t < P.periods → Of u (λ g r. T (off_ramp t g r)) P.units s
          → Broken P s (record { number = 25; unit = suc u; period = suc t })
      ramp u zero l h = midnight u l (of_map _ _ (λ g r. (too_steep_is g g.on g.p0 (r at 0)).0) u P.units s h)
      ramp u (suc t) l h =
          ramps u t l (of_map _ _ (λ g r. (too_steep_is g (on (r at t)) (r at t) (r at suc t)).0) u P.units s h)
  fails_broken b (inr (inr (inr (inr (inr h))))) n = absurd h

-- ---- what judging finds

module _ (P : Instance) (s : Schedule) where
  -- nothing, where no rule is broken; else a broken rule, and none lower is broken
  pub first_breach_is : Earliest Lower (Broken P s) (first_breach P s)
  first_breach_is =
      firsts (Fails P s) (Broken P s) (broken_fails P s) (fails_broken P s) (first_breach P s) (fails_first P s).earliest

  -- a breach is found exactly when it is the first
  pub judge_some : (b : Breach) → (first_breach P s ≡ some b) ↔ (Broken P s b × ((c : Breach) → Lower c b → Broken P s c → ⊥))
  judge_some b = (
    λ e. subst (Earliest Lower (Broken P s)) e first_breach_is,
    λ h. only_first (Broken P s) b h.0 h.1 (first_breach P s) first_breach_is,
  )

  -- of I rows of T outputs, none is found exactly when they meet the rules
  pub judge_none : Shaped P s → (first_breach P s ≡ none) ↔ Meets P s
  judge_none w = (
    λ e. unbroken_meets P s w (subst (Earliest Lower (Broken P s)) e first_breach_is),
    λ M. nothing (first_breach P s) first_breach_is (meets_unbroken P s M),
  )
    where
      nothing : (x : Option Breach) → Earliest Lower (Broken P s) x → ((b : Breach) → Broken P s b → ⊥) → x ≡ none
      nothing none e n = refl
      nothing (some b) e n = absurd (n b e.0)
