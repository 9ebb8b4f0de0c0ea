-- The test of a question about forced statuses is what it says.
use mathlib.Core.Path.{◌≡◌}
use mathlib.Core.Bool.{true}
use mathlib.Core.List.{List}
use mathlib.Core.Logic.{◌↔◌}
use Prim.Native.Nat.{ℕ, ◌*◌}
use lib.Dec.{T, eqb}
use lib.ListN.{length}
use Rattle.model.specs.Instance.{Instance}
use Rattle.model.proofs.Tests.{T_true, true_T}
use Rattle.model.proofs.RangeTests.{and_is, eqb_is}
use Rattle.runs.proofs.Questions.{Asked, asked_is}
use Rattle.forced.specs.Answers.{fits, FitQuestion}

module _ (P : Instance) (q s fixed : List ℕ) (values stuck : ℕ) where
  abbrev entries : ℕ
  entries = 2 * (length P.units * P.periods)

  parts_are : T (fits P q s fixed values stuck) ↔ ((values ≡ entries) × ((stuck ≡ entries) × Asked P.periods (length P.units) q s fixed))
  parts_are =
      and_is (eqb values entries) _ (eqb_is values entries)
      (and_is (eqb stuck entries) _ (eqb_is stuck entries) (asked_is P.periods (length P.units) q s fixed))

  pub fits_is : (fits P q s fixed values stuck ≡ true) ↔ FitQuestion P q s fixed values stuck
  fits_is = (
    λ e. let p = parts_are.0 (true_T (fits P q s fixed values stuck) e) in
        record {
          q_long = p.1.1.0;
          s_long = p.1.1.1.0;
          fixed_long = p.1.1.1.1.1.1.0;
          values_long = p.0;
          stuck_long = p.1.0;
          q_in = p.1.1.1.1.0;
          s_in = p.1.1.1.1.1.0;
          statuses = p.1.1.1.1.1.1.1;
        },
    λ F. T_true (fits P q s fixed values stuck) (parts_are.1 (F.values_long, (F.stuck_long, (F.q_long, (F.s_long, (F.q_in, (F.s_in, (F.fixed_long, F.statuses)))))))),
  )
