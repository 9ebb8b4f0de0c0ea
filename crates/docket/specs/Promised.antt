-- The words of the page of promises: what stands after a list of texts, and what a text can be there.
use Rattle.std.specs.Prelude.{◌≡◌, true, List, [], ◌∷◌, ◌++◌, ℕ, ◌<◌, T, length, Some}
use Rattle.std.proofs.Math.Option.{Option, none, some}
use Rattle.model.specs.Instance.{Instance, Schedule}
use Rattle.model.specs.Ranges.{WellFormed, GoodWriter, GoodRows}
use Rattle.model.specs.Rules.{Meets}
use Rattle.model.specs.Cost as model
use Rattle.model.specs.Held.{view, Valid}
use Rattle.model.specs.Above.{root}
use Rattle.model.specs.Tree.{Tree, Limits, Holds, tree_figures}
use Rattle.problem.specs.Rendering as problem_text
use Rattle.schedule.specs.Rendering as schedule_text
use Rattle.tree.specs.Rendering as tree_text
use Rattle.answer.specs.StatedAnswers.{AnswerValues, its_cost, its_bound, Stated, stated}
use Rattle.answer.specs.AnswerLines.{answer_line}
use Rattle.docket.specs.declared.Docket.{Docket}
use Rattle.docket.specs.declared.held.CostBy.{CostBy}
use Rattle.docket.specs.declared.held.BoundBy.{BoundBy}
use Rattle.docket.specs.declared.held.HeldBound.TheVariants as bound
use Rattle.docket.specs.Docket.{size_limit, small_number}
use Rattle.docket.specs.Verdicts.{Verdict, known_at_end}
use Rattle.docket.specs.Texts.{Short}
use Rattle.docket.specs.Lodging.{lodge_of}
use Rattle.docket.specs.Demand3.{reached}

-- ---- after a list of texts, lodged in turn in a fresh docket

abbrev pub after : List (List ℕ) → Docket
after texts = reached lodge_of texts

-- the answer to one text more
abbrev pub answer : List (List ℕ) → List ℕ → Stated
answer texts text = stated (lodge_of (after texts) text).answer

-- the problem that texts with these verdicts gave: that of the first accepted problem
abbrev pub given : List Verdict → Option Instance
given vs = known_at_end none vs

-- ---- texts that can be accepted

-- the text of a well-formed problem
abbrev pub ProblemText : List ℕ → Instance → Type 0
ProblemText text P = Short text × ((text ≡ problem_text.render P) × WellFormed P)

-- the text of a writer and rows in range, and of a writer in range and a tree within the limits
abbrev pub ScheduleText : Instance → List ℕ → ℕ → Schedule → Type 0
ScheduleText P text w s = (text ≡ schedule_text.render w s) × GoodWriter w × GoodRows P s

abbrev pub TreeText : Instance → List ℕ → ℕ → Tree → Type 0
TreeText P text w t = (text ≡ tree_text.render w t) × GoodWriter w × Limits P root 0 t

-- a short text of a schedule that meets the rules, with its cost
abbrev pub OfSchedule : Instance → List ℕ → AnswerValues → Type 0
OfSchedule P text x = Short text × ((w : ℕ) × (s : Schedule) × ScheduleText P text w s × Meets P s × (x ≡ its_cost (model.cost P s)))

-- a short text of a tree within the limits whose leaves meet their rules, with its bound and counts
abbrev pub OfTree : Instance → List ℕ → AnswerValues → Type 0
OfTree P text x = Short text × ((w : ℕ) × (t : Tree) × TreeText P text w t × Holds P root t × (x ≡ its_bound (tree_figures P t)))

-- ---- any value of the struct

-- its arrays have the lengths that the struct gives them
abbrev pub Long : Docket → Type 0
Long d = (length d.problem.demand ≡ 48) × (length d.problem.spare ≡ 48) × (length d.problem.generators ≡ 32)

-- it knows a problem, its arrays hold a well-formed one, its cost is below 2^61, and its bound from -2^61 to below 2^61
pub record KnownSound (d : Docket) : Type 0 where
  pub known : d.known ≡ true
  pub valid : Valid d.problem
  pub cost_small : (by : CostBy) → d.held.cost ≡ Some by → by.cost < size_limit
  pub bound_small : (by : BoundBy) → d.held.bound ≡ bound.Number by → T (small_number by.value)

-- the problem under which it judges a text: its own where `KnownSound` holds, and else none
pub data JudgesBy (d : Docket) : Option Instance → Type 0 where
  its_own : KnownSound d → JudgesBy d (some (view d.problem))
  no_problem : (KnownSound d → ⊥) → JudgesBy d none

-- ---- the listing

-- a line for each answer
abbrev pub stated_lines : List Stated → List ℕ
stated_lines [] = []
stated_lines (s ∷ l) = answer_line s ++ stated_lines l
