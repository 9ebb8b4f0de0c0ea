-- The runs of a price leaf, asked of a docket: by the problem that it knows, or by none.
use mathlib.Core.Path.{◌≡◌, ap, ap₂}
use mathlib.Core.Bool.{Bool, true, false, cond}
use mathlib.Core.List.{List}
use Prim.Native.Nat.{ℕ}
use Rattle.model.specs.Held.{view}
use Rattle.std.specs.Prelude.{Err}
use Rattle.runs.specs.declared.drafting.NoRuns.TheVariants.{Question}
use Rattle.runs.specs.declared.question.Unanswered.TheVariants.{NoProblem}
use Rattle.runs.specs.Drafts.{unwritten, draft_under}
use Rattle.docket.specs.declared.Docket.{Docket}
use Rattle.docket.specs.Lodging.{trusted}
use Rattle.docket.specs.Drafting.{runs_of}
use Rattle.docket.proofs.HoldingAnswers.{knows_sound, itself}

module _ (d : Docket) (q s fixed rows short : List ℕ) where
  pub runs_known : (trusted d).known ≡ true → runs_of d q s fixed rows short ≡ draft_under (view d.problem) q s fixed rows short
  unfolding runs_of
  runs_known k =
      ap₂ (λ (b : Bool) (x : Docket). cond b (draft_under (view x.problem) q s fixed rows short) (unwritten rows short (Err (Question NoProblem)))) k (itself d (knows_sound d k))

  pub runs_none : (trusted d).known ≡ false → runs_of d q s fixed rows short ≡ unwritten rows short (Err (Question NoProblem))
  unfolding runs_of
  runs_none k = ap (λ (b : Bool). cond b (draft_under (view (trusted d).problem) q s fixed rows short) (unwritten rows short (Err (Question NoProblem)))) k
