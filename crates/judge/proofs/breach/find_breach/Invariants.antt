-- The loops pass every unit of every period before the one at hand: at the label the first place is found, past the last period there is none.
use mathlib.Core.Path.{◌≡◌}
use Rattle.std.specs.Prelude.{None}
use Rattle.judge.specs.Rule.{broken_by}
use Rattle.judge.proofs.Search.{Passed, Clear}
use Rattle.judge.proofs.breach.find_breach.Given as goal

abbrev pub invariant-loop-u : goal.invariant-loop-u
invariant-loop-u l = (l.first ≡ l.initial.first) × Passed (broken_by l.rule) l.problem l.rows l.t l.u

abbrev pub invariant-search : goal.invariant-search
invariant-search l = (l.first ≡ None) × Clear (broken_by l.rule) l.problem l.rows l.t
