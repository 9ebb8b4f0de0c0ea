-- Document 02, [5], asked of a docket: the least values of all units with each status forced, under the problem held.
use Rattle.std.specs.Prelude.{cond, Err, List, ℕ, ℤ}
use Rattle.model.specs.Held.{view}
use Rattle.runs.specs.declared.question.Unanswered.TheVariants.{NoProblem}
use Rattle.forced.specs.Answers.{Told, untold, told_under}
use Rattle.docket.specs.declared.Docket.{Docket}
use Rattle.docket.specs.Lodging.{trusted}

-- a value that is not sound is taken for a fresh docket, which knows no problem
unfoldable pub forced_of : Docket → List ℕ → List ℕ → List ℕ → List ℤ → List ℕ → Told
forced_of d q s fixed values stuck = cond (trusted d).known (told_under (view (trusted d).problem) q s fixed values stuck) (untold values stuck (Err NoProblem))
