-- From k to t the status is one: what was spent before k counts if the status there is the same. The count ends where the status
-- differs, or before period 1.
use Rattle.judge.proofs.Before.{Back}
use Rattle.judge.proofs.updown.count_back.Given as goal

abbrev pub invariant-loop-k : goal.invariant-loop-k
invariant-loop-k l = Back l.g.on l.g.since l.row l.status l.t l.k
