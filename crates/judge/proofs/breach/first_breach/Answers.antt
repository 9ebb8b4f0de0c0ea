-- Where the rule is broken in no place there is no first.
use mathlib.Core.Path.{◌≡◌, sym, ◌∙◌}
use borrow.Author.Rules.{rules}
use lib.ListN.{length}
use Rattle.judge.proofs.Tallied.{none_broken}
use Rattle.judge.proofs.breach.first_breach.Goals as goal

pub returns-then-places-eq0 : goal.returns-then-places-eq0
returns-then-places-eq0 c =
    let p = c.args.problem in
    let many : length p.generators ≡ 32 = search rules in
    sym (none_broken p c.args.rows.now c.requires.fitting many c.args.rule (sym c.requires.counted ∙ c.if-places-eq0.true))
