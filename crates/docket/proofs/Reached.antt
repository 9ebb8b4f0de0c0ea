-- The docket that the verdicts of a list determine, and that it is sound: what it holds is a member of the list, and members are small.
use Rattle.std.specs.Prelude.{None, Some}
use mathlib.Core.Path.{◌≡◌, refl, sym, subst}
use mathlib.Core.Bool.{Bool, true, ◌&&◌}
use mathlib.Core.List.{List, flatten}
use mathlib.Core.Option.{Option, none, some}
use Prim.Native.Nat.{ℕ}
use native.Mathlib.Omega.{arith}
use lib.Dec.{T, ltb, lt→ltb}
use lib.IntN.{ℤ, pos, negsuc}
use lib.ListN.{replicate}
use Rattle.model.specs.Instance.{Instance}
use Rattle.model.specs.Ranges.{WellFormed, All}
use Rattle.model.specs.Held as arrays
use Rattle.model.specs.Held.{pad, valid_problem}
use Rattle.model.specs.Above.{root}
use Rattle.model.specs.Figures.{Bound}
use Rattle.std.specs.Prelude.{None as never, Some as number}
use Rattle.model.proofs.Tests.{T_true, T_and}
use Rattle.model.proofs.Valid.{held_passes}
use Rattle.model.proofs.Lists.{held_after, IsFirst, cheaper, raises, held_least, held_highest}
use Rattle.model.proofs.CostSizes.{meets_small, cost_fits}
use Rattle.model.proofs.LeafSizes.{Fits}
use Rattle.model.proofs.TreeSizes.{bound_fits}
use Rattle.tree.specs.Acceptance.{Bounded}
use Rattle.docket.specs.declared.Docket.{Docket}
use Rattle.docket.specs.declared.held.HeldBound.{HeldBound}
use Rattle.docket.specs.declared.held.HeldBound.TheVariants as bound
use Rattle.docket.specs.Docket.{HeldCost, fresh_docket, size_limit, small_cost, small_bound, small_number, sound}
use Rattle.docket.specs.Verdicts.{Costed, Verdict, schedules, trees}
use Rattle.docket.specs.Lodging.{bound_by}
use Rattle.docket.proofs.BestSoFar.{first_mem}
use Rattle.docket.proofs.GoodVerdicts.{GoodSchedule, GoodTree, all_mem, Proper}

-- ---- the docket that the verdicts so far determine

abbrev pub by_cost : Costed → Costed → Bool
by_cost = cheaper (λ (s : Costed). s.cost)

abbrev pub by_bound : Bounded → Bounded → Bool
by_bound = raises (λ (F : Bounded). F.figures.bound)

-- what is held of the accepted schedules and of the accepted trees
abbrev pub least : List Verdict → Option Costed
least past = held_after by_cost none (schedules past)

abbrev pub highest : List Verdict → Option Bounded
highest past = held_after by_bound none (trees past)

abbrev pub cost_kept : Option Costed → HeldCost
cost_kept none = None
cost_kept (some s) = Some (record { cost = s.cost; writer = s.writer })

abbrev pub rows_kept : Option Costed → List ℕ
rows_kept none = replicate 1536 0
rows_kept (some s) = pad 0 1536 (flatten s.rows)

abbrev pub bound_kept : Option Bounded → HeldBound
bound_kept none = bound.Nothing
bound_kept (some F) = bound_by F.figures.bound F.writer

abbrev pub docket_under : Instance → Option Costed → Option Bounded → Docket
docket_under P c b = record { known = true; problem = arrays.held P; held = record { cost = cost_kept c; bound = bound_kept b }; rows = rows_kept c }

abbrev pub docket_of : Option Instance → List Verdict → Docket
docket_of none past = fresh_docket
docket_of (some P) past = docket_under P (least past) (highest past)

-- ---- it is sound

module _ (P : Instance) (W : WellFormed P) where
  cost_small : (c : Option Costed) (l : List Costed) → IsFirst by_cost c l → All (GoodSchedule P) l → small_cost (cost_kept c) ≡ true
  cost_small none l f g = refl
  cost_small (some h) l f g =
      let s = all_mem (GoodSchedule P) l g h (first_mem by_cost h l f) in
      let e = s.cost_is in
      T_true _ (lt→ltb h.cost size_limit (omega (arith, cost_fits P W h.rows (meets_small P W h.rows s.meets.printed))))

  number_small : (z : ℤ) → Fits (number z) → T (small_number z)
  number_small (pos n) f = lt→ltb n size_limit (omega arith)
  number_small (negsuc n) f = T_and (ltb n size_limit) true (lt→ltb n size_limit (omega arith)) tt

  fits_small : (b : Bound) (w : ℕ) → Fits b → small_bound (bound_by b w) ≡ true
  fits_small never w f = refl
  fits_small (number z) w f = T_true (small_number z) (number_small z f)

  bound_small : (b : Option Bounded) (l : List Bounded) → IsFirst by_bound b l → All (GoodTree P) l → small_bound (bound_kept b) ≡ true
  bound_small none l f g = refl
  bound_small (some h) l f g =
      let t = all_mem (GoodTree P) l g h (first_mem by_bound h l f) in
      fits_small h.figures.bound h.writer (subst Fits (sym t.bound_is) (bound_fits P W root 0 t.its t.within))

both_true : (a b c : Bool) → a ≡ true → b ≡ true → c ≡ true → (a && (b && c)) ≡ true
both_true a b c p q r = simp (p, q, r)

pub docket_sound : (o : Option Instance) (past : List Verdict) → Proper o past → sound (docket_of o past) ≡ true
unfolding sound
docket_sound none past p = refl
docket_sound (some P) past p =
    both_true (valid_problem (arrays.held P)) (small_cost (cost_kept (least past))) (small_bound (bound_kept (highest past)))
    (held_passes P p.0) (cost_small P p.0 (least past) (schedules past) (held_least (λ (s : Costed). s.cost) (schedules past)) p.1.0)
    (bound_small P p.0 (highest past) (trees past) (held_highest (λ (F : Bounded). F.figures.bound) (trees past)) p.1.1)
