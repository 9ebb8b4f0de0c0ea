-- The entries of forced statuses, asked of a docket: by the problem that it knows, or by none.
use mathlib.Core.Path.{◌≡◌, ap, ap₂}
use mathlib.Core.Bool.{Bool, true, false, cond}
use mathlib.Core.List.{List}
use Prim.Native.Nat.{ℕ}
use lib.IntN.{ℤ}
use Rattle.model.specs.Held.{view}
use Rattle.std.specs.Prelude.{Err}
use Rattle.runs.specs.declared.question.Unanswered.TheVariants.{NoProblem}
use Rattle.forced.specs.Answers.{untold, told_under}
use Rattle.docket.specs.declared.Docket.{Docket}
use Rattle.docket.specs.Lodging.{trusted}
use Rattle.docket.specs.Forcing.{forced_of}
use Rattle.docket.proofs.HoldingAnswers.{knows_sound, itself}

module _ (d : Docket) (q s fixed : List ℕ) (values : List ℤ) (stuck : List ℕ) where
  pub forced_known : (trusted d).known ≡ true → forced_of d q s fixed values stuck ≡ told_under (view d.problem) q s fixed values stuck
  unfolding forced_of
  forced_known k =
      ap₂ (λ (b : Bool) (x : Docket). cond b (told_under (view x.problem) q s fixed values stuck) (untold values stuck (Err NoProblem))) k (itself d (knows_sound d k))

  pub forced_none : (trusted d).known ≡ false → forced_of d q s fixed values stuck ≡ untold values stuck (Err NoProblem)
  unfolding forced_of
  forced_none k = ap (λ (b : Bool). cond b (told_under (view (trusted d).problem) q s fixed values stuck) (untold values stuck (Err NoProblem))) k
