-- Document 02, [7], asked of a docket: the runs and the shortfalls of a price leaf under the problem held.
use Rattle.std.specs.Prelude.{cond, Err, List, ℕ}
use Rattle.model.specs.Held.{view}
use Rattle.runs.specs.declared.drafting.NoRuns.TheVariants.{Question}
use Rattle.runs.specs.declared.question.Unanswered.TheVariants.{NoProblem}
use Rattle.runs.specs.Drafts.{Drafted, unwritten, draft_under}
use Rattle.docket.specs.declared.Docket.{Docket}
use Rattle.docket.specs.Lodging.{trusted}

-- a value that is not sound is taken for a fresh docket, which knows no problem
unfoldable pub runs_of : Docket → List ℕ → List ℕ → List ℕ → List ℕ → List ℕ → Drafted
runs_of d q s fixed rows short = cond (trusted d).known (draft_under (view (trusted d).problem) q s fixed rows short) (unwritten rows short (Err (Question NoProblem)))
