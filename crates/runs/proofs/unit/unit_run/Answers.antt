-- `unit_run` meets its contract: the walk is 0 just where the unit is stuck, and the row is then as it was; else its value less what was added, and the row that has it.
use mathlib.Core.Path.{sym, ap, ◌∙◌}
use Prim.Native.Nat.{ℕ, ◌-◌, ◌^◌, ◌<◌}
use native.Mathlib.Omega.{arith}
use lib.ListN.{length}
use lib.IntN.{pos, ◌-ℤ◌}
use Rattle.model.specs.Instance.{◌at◌}
use Rattle.walk.specs.Marks.{marks_of}
use Rattle.std.specs.Prelude.{Some}
use Rattle.least.proofs.Costs.{price_value_fits, sum_offset_fits}
use Rattle.least.proofs.Signed.{pos_fits, read_sub_fits, read_sub}
use Rattle.least.proofs.UnitAnswers.{answer_stuck, answer_value}
use Rattle.runs.proofs.UnitRuns.{found_row}
use Rattle.runs.proofs.unit.unit_run.Goals as goal
use Rattle.runs.proofs.unit.unit_run.Tie as tie
use Rattle.runs.proofs.unit.unit_run.Reads as reads
use Rattle.runs.proofs.unit.unit_run.Lts as lts

-- both sums are within a signed number
sums : (c : lts.After-sum_offset tie.the-claims reads.Pre reads.Post tie.handed_clauses) → (c.write_priced-value.result - 1 < 2 ^ 63) × (c.sum_offset-added.result < 2 ^ 63)
sums c =
    let a = c.args in (
      omega (arith, c.write_priced-value.ensures.value, price_value_fits (length a.q.now) a.q.now a.s.now c.requires.good_prices.0 a.unit.generator c.args.unit.good (marks_of a.fixed.now)),
      omega (arith, c.sum_offset-added.ensures, sum_offset_fits (length a.q.now) a.q.now a.s.now c.requires.good_prices.0 a.unit.generator c.args.unit.good),
    )

pub returns-then-value-eq0 : goal.returns-then-value-eq0
returns-then-value-eq0 c =
    let a = c.args in
    let n = length a.q.now in record { least = answer_stuck n (λ t. a.q.now at t) (λ t. a.s.now at t) a.unit.generator (marks_of a.fixed.now) (sym c.write_priced-value.ensures.value ∙ c.if-value-eq0.true); row = c.write_priced-value.ensures.row ∙ found_row n (λ t. a.q.now at t) (λ t. a.s.now at t) a.unit.generator (marks_of a.fixed.now) c.args.unit.good a.row.now }

pub overflow_cast-result : goal.overflow_cast-result
overflow_cast-result c = pos_fits _ (sums c.before).0

pub overflow_cast-result-2 : goal.overflow_cast-result-2
overflow_cast-result-2 c = pos_fits _ (sums c.before).1

pub overflow_sub-result-2 : goal.overflow_sub-result-2
overflow_sub-result-2 c = read_sub_fits _ _ (sums c.before).0 (sums c.before).1

pub returns : goal.returns
returns c =
    let a = c.args in
    let n = length a.q.now in
    let value = c.write_priced-value.result in record {
      least = ap Some (read_sub (value - 1) c.sum_offset-added.result (sums c.before).0 (sums c.before).1 ∙ ap (λ (x : ℕ). pos (value - 1) -ℤ pos x) c.sum_offset-added.ensures)
          ∙ answer_value n (λ t. a.q.now at t) (λ t. a.s.now at t) a.unit.generator (marks_of a.fixed.now) c.args.unit.good value c.write_priced-value.ensures.value c.if-value-eq0.false;
      row = c.write_priced-value.ensures.row ∙ found_row n (λ t. a.q.now at t) (λ t. a.s.now at t) a.unit.generator (marks_of a.fixed.now) c.args.unit.good a.row.now;
    }
