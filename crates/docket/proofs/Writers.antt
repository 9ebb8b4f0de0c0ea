-- The writers of what is held are in range: what is held is a member of a list of accepted texts, and their writers are.
use Rattle.std.specs.Prelude.{None, Some}
use mathlib.Core.Path.{refl, sym, subst}
use mathlib.Core.List.{List, []}
use mathlib.Core.Option.{Option, none, some}
use Prim.Native.Nat.{ℕ}
use Rattle.model.specs.Instance.{Instance}
use Rattle.model.specs.Ranges.{GoodWriter, All}
use Rattle.model.specs.Figures.{Bound}
use Rattle.std.specs.Prelude.{None as never, Some as number}
use Rattle.model.proofs.Lists.{IsFirst, held_least, held_highest}
use Rattle.tree.specs.Acceptance.{Bounded}
use Rattle.docket.specs.declared.Docket.{Docket}
use Rattle.docket.specs.declared.held.Held.{Held}
use Rattle.docket.specs.declared.held.HeldBound.{HeldBound}
use Rattle.docket.specs.declared.held.HeldBound.TheVariants as bound
use Rattle.docket.specs.Docket.{HeldCost, fresh_docket}
use Rattle.docket.specs.Verdicts.{Costed, Verdict, schedules, trees, known_at_end}
use Rattle.docket.specs.Lodging.{bound_by, lodge_of}
use Rattle.docket.specs.Demand3.{docket_after}
use Rattle.docket.proofs.BestSoFar.{first_mem}
use Rattle.docket.proofs.ListVerdicts.{verdicts_of}
use Rattle.docket.proofs.GoodVerdicts.{GoodSchedule, GoodTree, all_mem, Proper}
use Rattle.docket.proofs.Reached.{by_cost, by_bound, least, highest, cost_kept, bound_kept, docket_of}
use Rattle.docket.proofs.Lists.{lodges}

abbrev pub CostWriter : HeldCost → Type 0
CostWriter None = Unit {0}
CostWriter (Some n) = GoodWriter n.writer

abbrev pub BoundWriter : HeldBound → Type 0
BoundWriter bound.Nothing = Unit {0}
BoundWriter (bound.Number n) = GoodWriter n.writer
BoundWriter (bound.Never n) = GoodWriter n.writer

abbrev pub Writers : Held → Type 0
Writers h = CostWriter h.cost × BoundWriter h.bound

module _ (P : Instance) where
  cost_writer : (c : Option Costed) (l : List Costed) → IsFirst by_cost c l → All (GoodSchedule P) l → CostWriter (cost_kept c)
  cost_writer none l f g = tt
  cost_writer (some h) l f g = (all_mem (GoodSchedule P) l g h (first_mem by_cost h l f)).writer_in

  by_writer : (b : Bound) (w : ℕ) → GoodWriter w → BoundWriter (bound_by b w)
  by_writer never w g = g
  by_writer (number z) w g = g

  bound_writer : (b : Option Bounded) (l : List Bounded) → IsFirst by_bound b l → All (GoodTree P) l → BoundWriter (bound_kept b)
  bound_writer none l f g = tt
  bound_writer (some h) l f g = by_writer h.figures.bound h.writer (all_mem (GoodTree P) l g h (first_mem by_bound h l f)).writer_in

docket_writers : (o : Option Instance) (past : List Verdict) → Proper o past → Writers (docket_of o past).held
docket_writers none past p = (tt, tt)
docket_writers (some P) past p = (
  cost_writer P (least past) (schedules past) (held_least (λ (s : Costed). s.cost) (schedules past)) p.1.0,
  bound_writer P (highest past) (trees past) (held_highest (λ (F : Bounded). F.figures.bound) (trees past)) p.1.1,
)

-- so they are in every docket that lodging reaches from a fresh one
pub reached_writers : (texts : List (List ℕ)) → Writers (docket_after lodge_of fresh_docket texts).held
reached_writers texts =
    let r = lodges none [] (refl, refl) texts in
    subst (λ (d : Docket). Writers d.held) (sym r.docket_is)
    (docket_writers (known_at_end none (verdicts_of none texts)) (verdicts_of none texts) r.proper)
