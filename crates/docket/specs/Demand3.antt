-- Demand 3: what holds after every list of texts that is lodged from a fresh docket, and what every report then shows.
use Rattle.std.specs.Prelude.{◌≡◌, Bool, true, false, ℕ, ltb, pos, ◌≤ℤ◌, replicate, None, Some}
use mathlib.Core.List.{List, [], ◌∷◌, ◌++◌, map, flatten}
use Rattle.std.proofs.Math.Option.{Option, none, some}
use Rattle.model.specs.Instance.{Instance, Schedule}
use Rattle.model.specs.Ranges.{every}
use Rattle.model.specs.Rules.{Meets}
use Rattle.model.specs.Cost as model
use Rattle.model.specs.Held as arrays
use Rattle.model.specs.Held.{pad}
use Rattle.model.specs.Figures.{Bound}
use Rattle.std.specs.Prelude.{None as never, Some as number}
use Rattle.model.specs.Best.{higher, FirstLeast, FirstHighest}
use Rattle.tree.specs.Acceptance.{Bounded}
use Rattle.docket.specs.declared.Docket.{Docket}
use Rattle.docket.specs.declared.Lodged.{Lodged}
use Rattle.docket.specs.declared.Reported.{Reported}
use Rattle.docket.specs.declared.held.CostBy.{CostBy}
use Rattle.docket.specs.declared.held.HeldBound.{HeldBound}
use Rattle.docket.specs.declared.held.HeldBound.TheVariants as bound
use Rattle.answer.specs.declared.Answer.{Answer}
use Rattle.docket.specs.Docket.{HeldCost, fresh_docket}
use Rattle.answer.specs.StatedAnswers as answers
use Rattle.answer.specs.StatedAnswers.{AnswerValues, no_values, its_cost, its_bound, Stated, stated}
use Rattle.docket.specs.Verdicts.{Costed, Verdict, refused, problem, schedule, tree, schedules, trees, known_at_end}
use Rattle.docket.specs.Texts.{Are}
use Rattle.docket.specs.ReportDue.{Reports}

-- ---- a way of lodging texts and of asking for a report

-- the answer to a text, with the docket after it
abbrev pub Lodging : Type 0
Lodging = Docket → List ℕ → Lodged

-- the answer to a report asked for with a buffer lent and a place in it, with the docket after it
abbrev pub Reporting : Type 0
Reporting = Docket → List ℕ → ℕ → Reported

-- what the lent buffer then holds
abbrev pub Writing : Type 0
Writing = Docket → List ℕ → ℕ → List ℕ

-- ---- a list of texts, lodged one after the other

module _ (lodge : Lodging) where
  abbrev pub docket_after : Docket → List (List ℕ) → Docket
  docket_after d [] = d
  docket_after d (text ∷ texts) = docket_after (lodge d text).docket texts

  abbrev pub answers_to : Docket → List (List ℕ) → List Answer
  answers_to d [] = []
  answers_to d (text ∷ texts) = (lodge d text).answer ∷ answers_to (lodge d text).docket texts

  -- the docket that a list leaves
  abbrev pub reached : List (List ℕ) → Docket
  reached texts = docket_after fresh_docket texts

-- ---- the answers that are due

abbrev pub held_if : Bool → AnswerValues → Stated
held_if true v = answers.held v
held_if false v = answers.passed v

-- a schedule is held if it costs less than every one accepted before it, a tree if its bound is higher than every one's
abbrev pub answer_due : List Verdict → Verdict → Stated
answer_due past (refused r) = answers.refused r.number r.line r.unit r.period
answer_due past (problem P) = answers.held no_values
answer_due past (schedule s) = held_if (every (λ x. ltb s.cost x.cost) (schedules past)) (its_cost s.cost)
answer_due past (tree F) = held_if (every (λ G. higher F.figures.bound G.figures.bound) (trees past)) (its_bound F.figures)

abbrev pub answers_due : List Verdict → List Verdict → List Stated
answers_due past [] = []
answers_due past (v ∷ vs) = answer_due past v ∷ answers_due (past ++ (v ∷ [])) vs

-- ---- what is held, under the problem P

-- a schedule is held with this cost, writer and rows: of the accepted ones the first with the least cost. It meets the rules, and the
-- cost is that of (1). Its rows stand one after the other, row u from u times T on, and zeros after the last
pub record HoldsSchedule (P : Instance) (accepted : List Costed) (by : CostBy) (rows : List ℕ) : Type 0 where
  pub best : Costed
  pub first : FirstLeast (λ x. x.cost) best accepted
  pub held_cost : by.cost ≡ best.cost
  pub held_writer : by.writer ≡ best.writer
  pub held_rows : rows ≡ pad 0 1536 (flatten best.rows)
  pub meets : Meets P best.rows
  pub cost_is : best.cost ≡ model.cost P best.rows

-- no schedule is held, and none was accepted; or one is
abbrev pub CostHeld : Instance → List Costed → HeldCost → List ℕ → Type 0
CostHeld P accepted None rows = (accepted ≡ []) × (rows ≡ replicate 1536 0)
CostHeld P accepted (Some by) rows = HoldsSchedule P accepted by rows

-- the bound b of the writer w is held: of the accepted trees the first with the highest bound gave it
pub record HoldsBound (accepted : List Bounded) (b : Bound) (w : ℕ) : Type 0 where
  pub best : Bounded
  pub first : FirstHighest (λ F. F.figures.bound) best accepted
  pub held_bound : b ≡ best.figures.bound
  pub held_writer : w ≡ best.writer

-- no bound is held, and no tree was accepted; or one is. No schedule of whole outputs that meets the rules costs less than a held
-- number, whether it was lodged or not, and none meets them where never is held
abbrev pub BoundHeld : Instance → List Bounded → HeldBound → Type 0
BoundHeld P accepted bound.Nothing = accepted ≡ []
BoundHeld P accepted (bound.Number by) =
    HoldsBound accepted (number by.value) by.writer × ((s : Schedule) → Meets P s → by.value ≤ℤ pos (model.cost P s))
BoundHeld P accepted (bound.Never by) = HoldsBound accepted never by.writer × ((s : Schedule) → Meets P s → ⊥)

pub record HoldsUnder (P : Instance) (vs : List Verdict) (d : Docket) : Type 0 where
  pub known : d.known ≡ true
  pub problem_is : d.problem ≡ arrays.held P
  pub cost_held : CostHeld P (schedules vs) d.held.cost d.rows
  pub bound_held : BoundHeld P (trees vs) d.held.bound

-- the problem held is the first accepted one; where there is none nothing is held
abbrev pub Holding : Option Instance → List Verdict → Docket → Type 0
Holding none vs d = d ≡ fresh_docket
Holding (some P) vs d = HoldsUnder P vs d

-- ---- the whole

-- an answer after which nothing may have changed
abbrev pub Unheld : Stated → Type 0
Unheld (answers.refused n l u t) = Unit {0}
Unheld (answers.held v) = ⊥
Unheld (answers.passed v) = Unit {0}

module _ (lodge : Lodging) (report : Reporting) (buffer : Writing) where
  -- after one list
  pub record After (texts : List (List ℕ)) : Type 0 where
    pub verdicts : List Verdict
    pub texts_are : Are none texts verdicts
    pub answers_are : map stated (answers_to lodge fresh_docket texts) ≡ answers_due [] verdicts
    pub holds : Holding (known_at_end none verdicts) verdicts (reached lodge texts)
    pub unchanged : (text : List ℕ) → Unheld (stated (lodge (reached lodge texts) text).answer)
        → (lodge (reached lodge texts) text).docket ≡ reached lodge texts
    pub reports : (b : List ℕ) (k : ℕ)
        → Reports verdicts (reached lodge texts) b k (report (reached lodge texts) b k) (buffer (reached lodge texts) b k)

  -- after every list
  abbrev pub Demand3 : Type 0
  Demand3 = (texts : List (List ℕ)) → After texts

-- two ways that cannot be told apart after a list
pub record Same (lodge lodge' : Lodging) (report report' : Reporting) (buffer buffer' : Writing) (texts : List (List ℕ)) : Type 0 where
  pub same_answers : answers_to lodge fresh_docket texts ≡ answers_to lodge' fresh_docket texts
  pub same_docket : reached lodge texts ≡ reached lodge' texts
  pub same_reports : (b : List ℕ) (k : ℕ) → report (reached lodge texts) b k ≡ report' (reached lodge' texts) b k
  pub same_buffers : (b : List ℕ) (k : ℕ) → buffer (reached lodge texts) b k ≡ buffer' (reached lodge' texts) b k
