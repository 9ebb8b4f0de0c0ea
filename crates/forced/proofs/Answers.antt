-- What is told, by whether the question fits: all entries, or nothing; and what holds of a question that fits.
use mathlib.Core.Path.{◌≡◌, refl}
use mathlib.Core.Bool.{true, false}
use mathlib.Core.List.{List, map}
use Prim.Native.Nat.{ℕ, ◌*◌, ◌≤◌}
use native.Mathlib.Omega.{arith}
use lib.IntN.{ℤ}
use lib.ListN.{length}
use Rattle.model.specs.Instance.{Instance}
use Rattle.model.specs.Ranges.{WellFormed}
use Rattle.model.specs.Forced.{value_number, stuck_number}
use Rattle.least.specs.Limits.{GoodPrices}
use Rattle.std.specs.Prelude.{Ok, Err}
use Rattle.runs.specs.declared.question.Unanswered.TheVariants.{Unfit}
use Rattle.forced.specs.Answers.{Told, untold, entries_asked, fits, told_under}
use Rattle.forced.proofs.Questions.{fits_is}

module _ (P : Instance) (q s fixed : List ℕ) where
  -- the multipliers and the lengths of a question that fits
  pub fit_limits : WellFormed P → (values stuck : ℕ) → fits P q s fixed values stuck ≡ true
      → GoodPrices P.periods q s × ((length P.units * P.periods ≤ length fixed)
      × ((values ≡ 2 * (length P.units * P.periods)) × (stuck ≡ 2 * (length P.units * P.periods))))
  fit_limits W values stuck e =
      let F = (fits_is P q s fixed values stuck).0 e in (
        record { periods_in = W.periods_in; q_long = F.q_long; s_long = F.s_long; q_in = F.q_in; s_in = F.s_in },
        (omega (arith, F.fixed_long), (F.values_long, F.stuck_long)),
      )

  -- all entries, in numbers
  abbrev pub found : Told
  found = record { answer = Ok tt; values = map value_number (entries_asked P q s fixed); stuck = map stuck_number (entries_asked P q s fixed) }

  pub fit_told : (values : List ℤ) (stuck : List ℕ) → fits P q s fixed (length values) (length stuck) ≡ true → found ≡ told_under P q s fixed values stuck
  unfolding told_under
  fit_told values stuck e = rw e refl

  pub unfit_told : (values : List ℤ) (stuck : List ℕ) → fits P q s fixed (length values) (length stuck) ≡ false → untold values stuck (Err Unfit) ≡ told_under P q s fixed values stuck
  unfolding told_under
  unfit_told values stuck e = rw e refl
