-- Document 01, The listing program: the number and the values that each case of an answer stands for.
use Rattle.std.specs.Prelude.{◌≡◌, ℕ}
use Rattle.model.specs.declared.figures.TreeFigures.{TreeFigures}
use Rattle.answer.specs.declared.Answer.{Answer}
use Rattle.answer.specs.declared.Answer.TheVariants.{Refused, TextHeld, ScheduleHeld, SchedulePassed, TreeHeld, TreePassed}

-- what follows `held` or `passed`: nothing for a text that is neither schedule nor tree, a schedule's cost, what a tree gives
pub data AnswerValues : Type 0 where
  no_values : AnswerValues
  its_cost : ℕ → AnswerValues
  its_bound : TreeFigures → AnswerValues

-- the four numbers of a refusal, or held or passed and the values
pub data Stated : Type 0 where
  refused : (number line unit period : ℕ) → Stated
  held : AnswerValues → Stated
  passed : AnswerValues → Stated

-- every case
abbrev pub stated : Answer → Stated
stated (Refused r) = refused r.number r.line r.unit r.period
stated TextHeld = held no_values
stated (ScheduleHeld c) = held (its_cost c)
stated (SchedulePassed c) = passed (its_cost c)
stated (TreeHeld f) = held (its_bound f)
stated (TreePassed f) = passed (its_bound f)

-- accepted, with these values: held or passed
abbrev pub Carries : Stated → AnswerValues → Type 0
Carries (refused n l u t) w = ⊥
Carries (held v) w = v ≡ w
Carries (passed v) w = v ≡ w
