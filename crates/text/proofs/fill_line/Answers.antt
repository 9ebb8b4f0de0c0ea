-- `fill_line` meets its contract: the key stands there, so that its values are those behind it, and the verdict is by these and their ranges
-- (verdict_is).
use borrow.Author.Rules.{rules}
use native.Mathlib.Omega.{arith}
use Prim.Native.Nat.{◌+◌}
use mathlib.Core.Path.{◌≡◌, sym, ap, ◌∙◌}
use mathlib.Core.Bool.{Bool, cond}
use lib.ListN.{length}
use Rattle.text.specs.Scan.{ValuesRead, wrong, values_at, keyed_at}
use Rattle.text.proofs.Keys.{key_fits}
use Rattle.text.proofs.Fills.{fill_verdict}
use Rattle.text.proofs.fill_line.Goals as goal
use Rattle.text.proofs.fill_line.Tie as tie
use Rattle.text.proofs.fill_line.Reads as reads
use Rattle.text.proofs.fill_line.Lts as lts

-- what is read where the key is known to stand
known : (c : lts.After-judge_values tie.the-claims reads.Pre reads.Post tie.handed_clauses) →
    let a = c.args in
    keyed_at a.key.now a.s.now a.at 0 a.out.now ≡ values_at a.s.now (a.at + length a.key.now) 0 a.out.now
unfolding keyed_at
known c =
    let a = c.args in
    ap (λ (b : Bool). cond b (values_at a.s.now (a.at + length a.key.now) 0 a.out.now) (wrong a.out.now)) c.requires.s_value

pub overflow_add-at : goal.overflow_add-at
overflow_add-at c =
    let a = c.args in
    omega (arith, key_fits a.s.now a.key.now a.at c.requires.s_value, c.well_formed, c.ranges)

pub returns : goal.returns
returns c =
    let a = c.args in
    let v = c.read_values-read in
    let stored = v.ensures.stored ∙ sym (ap (λ (r : ValuesRead). r.out) (known c.before)) in record {
      answer = c.judge_values.ensures
          ∙ fill_verdict a.key.now a.lows.now a.highs.now a.s.now a.out.now a.at c.requires.key_value.0 c.requires.key_value.1.1.1.0 c.requires.key_value.1.1.1.1 stored (v.ensures.answer ∙ sym (ap (λ (r : ValuesRead). r.answer) (known c.before))) (search rules) c.all_within-within.ensures;
      stored = stored;
    }
