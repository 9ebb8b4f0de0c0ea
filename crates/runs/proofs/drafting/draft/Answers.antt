-- `draft` meets its contract: the leaf's value tells whether a unit is stuck, and where none is the runs and the shortfalls are written.
use mathlib.Core.Path.{◌≡◌, ◌∙◌}
use mathlib.Core.Bool.{false}
use Prim.Native.Nat.{◌*◌, ◌≤◌}
use native.Mathlib.Omega.{arith}
use borrow.Author.Rules.{rules}
use mir.Syntax.{w64}
use mir.Val.{to_z, of_z}
use lib.ListN.{length}
use Rattle.model.specs.Instance.{◌at◌}
use Rattle.model.specs.Leaf.{any_stuck}
use Rattle.layout.specs.Numbers.{instance_in}
use Rattle.std.specs.Prelude.{None, Some}
use Rattle.least.specs.Limits.{GoodPrices}
use Rattle.leaves.specs.LeafLeasts.{leaf_of}
use Rattle.runs.specs.Drafts.{FitQuestion, marks_asked}
use Rattle.runs.proofs.FirstStuck.{first_stuck_found}
use Rattle.runs.proofs.Questions.{fits_is}
use Rattle.runs.proofs.AllRuns.{runs_long, runs_outputs}
use Rattle.runs.proofs.Drafts.{prices_good, some_stuck, none_stuck, stuck_drafted, runs_drafted}
use Rattle.runs.proofs.drafting.draft.Goals as goal
use Rattle.runs.proofs.drafting.draft.Tie as tie
use Rattle.runs.proofs.drafting.draft.Reads as reads
use Rattle.runs.proofs.drafting.draft.Lts as lts

fit : (s : lts.Start tie.the-claims reads.Pre reads.Post tie.handed_clauses) → FitQuestion (instance_in s.args.plan.numbers.now) s.args.q.now s.args.s.now s.args.fixed.now s.args.rows.now s.args.short.now
fit s = (fits_is (instance_in s.args.plan.numbers.now) s.args.q.now s.args.s.now s.args.fixed.now s.args.rows.now s.args.short.now).0 s.requires

prices : (s : lts.Start tie.the-claims reads.Pre reads.Post tie.handed_clauses) → GoodPrices (instance_in s.args.plan.numbers.now).periods s.args.q.now s.args.s.now
prices s =
    prices_good (instance_in s.args.plan.numbers.now) s.args.plan.laid.well_formed s.args.q.now s.args.s.now s.args.fixed.now s.args.rows.now s.args.short.now (fit s)

-- the statuses are there
room : (s : lts.Start tie.the-claims reads.Pre reads.Post tie.handed_clauses) → let P = instance_in s.args.plan.numbers.now in length P.units * P.periods ≤ length s.args.fixed.now
room s = omega (arith, (fit s).fixed_long)

-- what the call found, in the arm of a stuck unit
told-stuck : (c : lts.Past-After-enum_told tie.the-claims reads.Pre reads.Post tie.handed_clauses) →
    let a = c.args in
    let P = instance_in a.plan.numbers.now in
    None ≡ leaf_of P (marks_asked P a.fixed.now) (λ t. a.q.now at t) (λ t. a.s.now at t)
told-stuck c = let here : None ≡ c.leaf_value.result = cc in here ∙ c.leaf_value.ensures

-- and in the arm of a value
told-value : (c : lts.Past-After-known_told tie.the-claims reads.Pre reads.Post tie.handed_clauses) →
    let a = c.args in
    let P = instance_in a.plan.numbers.now in
    Some c.in-Some.value ≡ leaf_of P (marks_asked P a.fixed.now) (λ t. a.q.now at t) (λ t. a.s.now at t)
told-value c = let here : Some c.in-Some.value ≡ c.leaf_value.result = cc in here ∙ c.leaf_value.ensures

-- none is stuck then
free : (c : lts.Past-After-known_told tie.the-claims reads.Pre reads.Post tie.handed_clauses) →
    let a = c.args in
    let P = instance_in a.plan.numbers.now in
    any_stuck P.periods P.units (marks_asked P a.fixed.now) ≡ false
free c =
    let a = c.args in
    none_stuck (instance_in a.plan.numbers.now) a.q.now a.s.now a.fixed.now a.rows.now a.short.now c.in-Some.value (told-value c)

pub leaf_value-requires : goal.leaf_value-requires
leaf_value-requires c =
    record { good_prices = prices c.before.before.before.before.before.before; numbers_in_bounds = room c.before.before.before.before.before.before }

pub first_stuck-requires : goal.first_stuck-requires
first_stuck-requires c =
    room c.before.before.before.before.before.before.before.before

pub overflow_add-result : goal.overflow_add-result
overflow_add-result c =
    let a = c.args in
    let P = instance_in a.plan.numbers.now in
    let e = some_stuck P a.q.now a.s.now a.fixed.now a.rows.now a.short.now (told-stuck c.before.before) in
    omega (arith, c.first_stuck.ensures, (first_stuck_found P.periods P.units (marks_asked P a.fixed.now) e).1, c.args.plan.laid.well_formed.units_in.1)

pub write_runs-requires : goal.write_runs-requires
write_runs-requires c =
    record { good_prices = prices c.before.before.before.before.before.before.before.before.before; numbers_in_bounds = room c.before.before.before.before.before.before.before.before.before; rows_len = (fit c.before.before.before.before.before.before.before.before.before).rows_long; fixed_value = free c.before.before }

pub write_short-requires : goal.write_short-requires
write_short-requires c =
    let a = c.args in
    let P = instance_in a.plan.numbers.now in
    let good = c.args.plan.laid.well_formed.units_good in
    let e = free c.before.before.before.before.before.before in record {
      rows_len = rw c.write_runs.ensures (
        runs_long P good (λ t. a.q.now at t) (λ t. a.s.now at t) (marks_asked P a.fixed.now) e,
        runs_outputs P good (λ t. a.q.now at t) (λ t. a.s.now at t) (marks_asked P a.fixed.now) e,
      );
      short_len = (fit c.before.before.before.before.before.before.before.before.before.before.before.before.before).short_long;
    }

pub returns-in-None : goal.returns-in-None
returns-in-None c =
    let a = c.args in
    let P = instance_in a.plan.numbers.now in let whole = stuck_drafted P a.q.now a.s.now a.fixed.now a.rows.now a.short.now (told-stuck c.before.before) _ c.first_stuck.ensures in record { answer = whole.0; rows = whole.1.0; short = whole.1.1 }

pub returns-in-Some : goal.returns-in-Some
returns-in-Some c =
    let a = c.args in
    let P = instance_in a.plan.numbers.now in
    let v = c.in-Some.value in
    let same : to_z w64 (of_z w64 v) ≡ v = search rules in let whole = runs_drafted P a.q.now a.s.now a.fixed.now a.rows.now a.short.now c.args.plan.laid.well_formed.units_good
    (to_z w64 (of_z w64 v)) v same (told-value c.before.before.before.before.before.before.before.before.before) _ _ c.write_runs.ensures c.write_short.ensures in record { answer = whole.0; rows = whole.1.0; short = whole.1.1 }
