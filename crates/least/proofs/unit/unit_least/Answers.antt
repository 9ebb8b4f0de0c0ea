-- `unit_least` meets its contract: the walk is 0 just where the unit is stuck, and else its value less what was added.
use mathlib.Core.Path.{sym, ap, ◌∙◌}
use Prim.Native.Nat.{ℕ, ◌-◌, ◌^◌, ◌<◌}
use native.Mathlib.Omega.{arith}
use lib.ListN.{length}
use lib.IntN.{pos, ◌-ℤ◌}
use Rattle.model.specs.Instance.{◌at◌}
use Rattle.walk.specs.Marks.{marks_of}
use Rattle.std.specs.Prelude.{Some}
use Rattle.least.proofs.Costs.{price_value_fits, sum_offset_fits}
use Rattle.least.proofs.Signed.{pos_fits, read_sub_fits, read_sub}
use Rattle.least.proofs.UnitAnswers.{answer_stuck, answer_value}
use Rattle.least.proofs.unit.unit_least.Goals as goal
use Rattle.least.proofs.unit.unit_least.Tie as tie
use Rattle.least.proofs.unit.unit_least.Reads as reads
use Rattle.least.proofs.unit.unit_least.Lts as lts

-- both sums are within a signed number
sums : (c : lts.After-sum_offset tie.the-claims reads.Pre reads.Post) → (c.price_value-value.result - 1 < 2 ^ 63) × (c.sum_offset-added.result < 2 ^ 63)
sums c =
    let a = c.args in
    let value = c.price_value-value in (
      omega (arith, value.ensures, price_value_fits (length a.q.now) a.q.now a.s.now c.requires.0 a.unit.generator c.args.unit.good (marks_of a.fixed.now)),
      omega (arith, c.sum_offset-added.ensures, sum_offset_fits (length a.q.now) a.q.now a.s.now c.requires.0 a.unit.generator c.args.unit.good),
    )

pub returns-then-value-eq0 : goal.returns-then-value-eq0
returns-then-value-eq0 c =
    let a = c.args in
    let value = c.price_value-value in
    answer_stuck (length a.q.now) (λ t. a.q.now at t) (λ t. a.s.now at t) a.unit.generator (marks_of a.fixed.now) (sym value.ensures ∙ c.if-value-eq0.true)

pub overflow_cast-result : goal.overflow_cast-result
overflow_cast-result c = pos_fits _ (sums c.before).0

pub overflow_cast-result-2 : goal.overflow_cast-result-2
overflow_cast-result-2 c = pos_fits _ (sums c.before).1

pub overflow_sub-result-2 : goal.overflow_sub-result-2
overflow_sub-result-2 c = read_sub_fits _ _ (sums c.before).0 (sums c.before).1

pub returns : goal.returns
returns c =
    let a = c.args in
    let value = c.price_value-value in
    ap Some (read_sub (value.result - 1) c.sum_offset-added.result (sums c.before).0 (sums c.before).1 ∙ ap (λ (x : ℕ). pos (value.result - 1) -ℤ pos x) c.sum_offset-added.ensures)
    ∙ answer_value (length a.q.now) (λ t. a.q.now at t) (λ t. a.s.now at t) a.unit.generator (marks_of a.fixed.now) c.args.unit.good value.result value.ensures c.if-value-eq0.false
