-- Every docket that lodging reaches from a fresh one has arrays of the struct's lengths and a small bound.
use mathlib.Core.Path.{◌≡◌, refl, sym, ap, subst, ◌∙◌}
use mathlib.Core.List.{List, [], flatten}
use mathlib.Core.Option.{Option, none, some}
use Prim.Native.Nat.{ℕ, ◌*◌}
use native.Mathlib.Omega.{arith}
use lib.ListN.{length, length-replicate}
use Rattle.model.specs.declared.generator.Generator.{Generator}
use Rattle.model.specs.Instance.{Instance}
use Rattle.model.specs.Ranges.{WellFormed, All}
use Rattle.model.specs.Held as arrays
use Rattle.model.specs.Held.{blank_generator}
use Rattle.model.proofs.Held.{length_pad}
use Rattle.model.proofs.Lists.{IsFirst, held_least}
use Rattle.model.proofs.Unbroken.{meets_shaped}
use Rattle.judge.proofs.Rows.{joined_long}
use Rattle.docket.specs.Docket.{fresh_docket}
use Rattle.docket.specs.Verdicts.{Costed, Verdict, schedules, known_at_end}
use Rattle.docket.specs.Lodging.{lodge_of}
use Rattle.docket.specs.Demand3.{docket_after}
use Rattle.docket.proofs.BestSoFar.{first_mem}
use Rattle.docket.proofs.GoodVerdicts.{GoodSchedule, all_mem, Proper}
use Rattle.docket.proofs.ListVerdicts.{verdicts_of}
use Rattle.docket.proofs.Reached.{by_cost, least, rows_kept, docket_of, docket_sound}
use Rattle.docket.proofs.Differences.{sound_small}
use Rattle.docket.proofs.Lists.{lodges}
use Rattle.state.proofs.Fits.{Fits}
use Rattle.state.proofs.Outputs.{product_few}

module _ (P : Instance) (W : WellFormed P) where
  rows_long : (c : Option Costed) (l : List Costed) → IsFirst by_cost c l → All (GoodSchedule P) l → length (rows_kept c) ≡ 1536
  rows_long none l f g = length-replicate {A = ℕ} 1536 0
  rows_long (some h) l f g =
      let s = all_mem (GoodSchedule P) l g h (first_mem by_cost h l f) in
      let shaped = meets_shaped P h.rows s.meets in
      let e : length (flatten h.rows) ≡ length P.units * P.periods = joined_long P.periods h.rows shaped.1 ∙ ap (λ (k : ℕ). k * P.periods) shaped.0 in
      length_pad 0 1536 (flatten h.rows) (omega (arith, e, product_few (length P.units) P.periods W.units_in.1 W.periods_in.1))

fits_of : (o : Option Instance) (past : List Verdict) → Proper o past → Fits (docket_of o past)
unfolding arrays.held
fits_of none past p = record {
  demand_long = length-replicate {A = ℕ} 48 0;
  spare_long = length-replicate {A = ℕ} 48 0;
  units_long = length-replicate {A = Generator} 32 blank_generator;
  rows_long = length-replicate {A = ℕ} 1536 0;
  bound_small = refl;
}
fits_of (some P) past p =
    let W = p.0 in
    record {
      demand_long = length_pad 0 48 P.demand (omega (arith, W.demand_long, W.periods_in.1));
      spare_long = length_pad 0 48 P.spare (omega (arith, W.spare_long, W.periods_in.1));
      units_long = length_pad blank_generator 32 P.units W.units_in.1;
      rows_long = rows_long P W (least past) (schedules past) (held_least (λ (s : Costed). s.cost) (schedules past)) p.1.0;
      bound_small = (sound_small (docket_of (some P) past) (docket_sound (some P) past p)).1;
    }

pub reached_fits : (texts : List (List ℕ)) → Fits (docket_after lodge_of fresh_docket texts)
reached_fits texts =
    let r = lodges none [] (refl, refl) texts in
    let vs = verdicts_of none texts in
    subst Fits (sym r.docket_is) (fits_of (known_at_end none vs) vs r.proper)
