-- The page of promises: demands 1, 2 and 3, clause by clause, each proved in a line. The words used are defined in specs/, here and in the crates below;
-- what the texts of a list are is `Is` and `Are` (specs/Texts.antt), by renderings, limits and rules alone.
use Rattle.std.specs.Prelude.{None, Some}
use mathlib.Core.Path.{◌≡◌}
use mathlib.Core.Bool.{true, not}
use mathlib.Core.List.{List, [], ◌∷◌, ◌++◌, Memᴰ}
use mathlib.Core.Logic.{◌↔◌, ◌⊎◌}
use mathlib.Core.Option.{Option, none, some}
use Prim.Native.Nat.{ℕ, ◌≤◌}
use lib.Dec.{T}
use lib.IntN.{pos}
use lib.Signed.{◌≤ℤ◌}
use Rattle.model.specs.Instance.{Instance, Schedule}
use Rattle.model.specs.Ranges.{All, GoodUnit, WellFormed}
use Rattle.model.specs.Rules.{Meets}
use Rattle.model.specs.Cost as model
use Rattle.model.specs.Held.{view}
use Rattle.model.specs.Above.{Mark, root}
use Rattle.model.specs.Agreement.{Candidate, LeafOf, above, leaf_at}
use Rattle.model.specs.Leaf.{is_stuck, value, unit_least}
use Rattle.model.specs.Ramps.{ramp_value, ramp_least}
use Rattle.std.specs.Prelude.{None as never, Some as number}
use Rattle.model.specs.Tree.{Tree, Holds, leaf_bound, tree_figures}
use Rattle.model.specs.Tree as tree
use Rattle.model.specs.Best.{higher, FirstLeast, FirstHighest}
use Rattle.model.specs.declared.generator.Generator.{Generator}
use Rattle.model.proofs.EveryLeaf as leaf
use Rattle.model.proofs.UnitLeasts as least
use Rattle.judge.specs.Rows.{schedule_of}
use Rattle.refusal.specs.declared.Refusal.{Refusal}
use Rattle.text.specs.Lines.{Line, later, lines_of}
use Rattle.text.specs.LineRefused.{Beginning}
use Rattle.problem.specs.Rendering as problem_text
use Rattle.problem.specs.Refusals as of_problem
use Rattle.problem.proofs.WhichLine as problem_lines
use Rattle.schedule.specs.Refusals.{Written}
use Rattle.schedule.specs.Refusals as of_schedule
use Rattle.schedule.proofs.WhichLine as schedule_lines_refused
use Rattle.tree.specs.Refusals as of_tree
use Rattle.tree.proofs.WhichLine as tree_lines_refused
use Rattle.schedule.specs.WellFormed as schedule_lines
use Rattle.tree.specs.WellFormed as tree_lines
use Rattle.tree.specs.Acceptance.{Bounded}
use Rattle.report.specs.StatedReports.{report_stated as told}
use Rattle.answer.specs.StatedAnswers.{AnswerValues, no_values, its_cost, its_bound, refused, stated, Carries}
use Rattle.docket.specs.declared.Docket.{Docket}
use Rattle.docket.specs.declared.held.CostBy.{CostBy}
use Rattle.docket.specs.declared.held.BoundBy.{BoundBy}
use Rattle.docket.specs.declared.held.NeverBy.{NeverBy}
use Rattle.docket.specs.declared.held.HeldBound.TheVariants as bound
use Rattle.docket.specs.Docket.{fresh_docket}
use Rattle.docket.specs.Verdicts as verdict
use Rattle.docket.specs.Verdicts.{Costed, Verdict, schedules, trees}
use Rattle.docket.specs.Texts.{Short, Is, Are, Accepted}
use Rattle.docket.specs.Lodging.{lodge_of}
use Rattle.docket.specs.Report.{report_of, buffer_of}
use Rattle.docket.specs.ReportDue.{WrittenOr43, Reports}
use Rattle.docket.specs.Demand3.{answer_due, Unheld}
use Rattle.docket.specs.Promised.{after, answer, given, ProblemText, ScheduleText, TreeText, OfSchedule, OfTree, Long, JudgesBy}
use Rattle.docket.specs.Specimens.{listed_texts, specimens, Answered, too_little, short_tree}
use Rattle.docket.proofs.OneVerdict.{accepted_is}
use Rattle.docket.proofs.ListVerdicts.{verdicts_of, verdicts_are, one_list}
use Rattle.docket.proofs.Demand3.{demand3, unheld_unchanged}
use Rattle.docket.proofs.OneReport.{reports_then}
use Rattle.docket.proofs.AnyDocket as any
use Rattle.docket.proofs.EachText as each
use Rattle.docket.proofs.Holdings as holdings
use Rattle.docket.proofs.SpecimenList.{specimens_answered, listing_held}
use Rattle.docket.proofs.NeverHeld as witness
use Rattle.docket.proofs.Docket.fresh.Statement as fresh
use Rattle.docket.proofs.Docket.fresh.Met as fresh_met
use Rattle.docket.proofs.Docket.lodge.Statement as lodge
use Rattle.docket.proofs.Docket.lodge.Met as lodge_met
use Rattle.docket.proofs.Docket.report.Statement as report
use Rattle.docket.proofs.Docket.report.Met as report_met

-- ---- Demand 1. Every call ends, and none does anything undefined, whatever bytes, docket value and place it is given

pub calls_end : {M : Type 1} → fresh.statement M × lodge.statement M × report.statement M
calls_end = (fresh_met.met, lodge_met.met, report_met.met)

-- Those theorems ask nothing of the caller, and fix all that comes back: fresh_says, lodge_says, report_says of Contracts.antt. So `lodge_of`, `report_of`
-- and `buffer_of` below are what the functions do. The listing has a page of its own: crates/list/proofs/ListingPromises.antt

-- The texts refused, with number and place, are those of document 01 and of what is built of document 02, and no others: of every docket value, under the problem it judges by
pub refused_gets : (d : Docket) → Long d → (o : Option Instance) × JudgesBy d o
    × ((text : List ℕ) (r : Refusal) → (stated (lodge_of d text).answer ≡ refused r.number r.line r.unit r.period) ↔ Is o text (verdict.refused r))
refused_gets = any.refused_everywhere

-- and the docket stays unchanged, as it does where the text is passed
pub unheld_keeps : (d : Docket) (text : List ℕ) → Unheld (stated (lodge_of d text).answer) → (lodge_of d text).docket ≡ d
unheld_keeps = unheld_unchanged

-- A report leaves the docket. Of every docket value there are lines that it shows in every buffer at every place; with too few bytes from there on it is 43 and leaves the buffer too
pub reports_always : (d : Docket) → (lines : List ℕ)
    × ((b : List ℕ) (k : ℕ) → ((report_of d b k).docket ≡ d) × WrittenOr43 lines b k (told (report_of d b k).answer) (buffer_of d b k))
reports_always = any.reports_always

-- Where a refusal stands: by `LineRefused` (text/specs), out of which `Is` is made, the lines before a refused line begin the text of some value within the
-- limits (`begins` there); a tree's so that the leaves which end among them meet their rules. With the refused line they begin none: so it is the first such line
pub problem_line : (text : List ℕ) (n m : ℕ) (r : of_problem.RefusedAt text n m) (x : Line) (rest : List Line) → r.left ≡ x ∷ rest
    → (P : Instance) → Beginning problem_text.lines_after of_problem.InLimits (r.before ++ (x ∷ [])) P → ⊥
problem_line text n m = problem_lines.with_it_none n m text

module _ (P : Instance) (W : WellFormed P) where
  pub schedule_line : (text : List ℕ) (n m : ℕ) (r : of_schedule.RefusedAt P text n m) (x : Line) (rest : List Line) → r.left ≡ x ∷ rest
      → (v : Written) → Beginning of_schedule.written_lines (of_schedule.InLimits P) (r.before ++ (x ∷ [])) v → ⊥
  schedule_line text n m = schedule_lines_refused.with_it_none P W.periods_in.0 n m (later (lines_of text))

  pub tree_line : (text : List ℕ) (n m : ℕ) (r : of_tree.RefusedAt P text n m) (x : Line) (rest : List Line) → r.left ≡ x ∷ rest
      → (v : of_tree.WrittenTree) → Beginning of_tree.written_lines (of_tree.HoldsSoFar P) (r.before ++ (x ∷ [])) v → ⊥
  tree_line text n m = tree_lines_refused.with_it_none P W.periods_in.0 n m text

-- ---- Demand 2, of a tree's bound: it is the smallest value of its leaves (one without prices has never, which is above every number)

pub bound_smallest : (P : Instance) (t : Tree) → ((l : LeafOf t) × (tree.bound P root t ≡ leaf_bound P (above root t l) (leaf_at t l)))
    × ((l : LeafOf t) → T (not (higher (tree.bound P root t) (leaf_bound P (above root t l) (leaf_at t l)))))
bound_smallest P t = (leaf.bound_attained P root t, leaf.bound_lowest P root t)

-- and the minima in it are true ones: of a unit's rows of whole outputs that obey and agree, none has a lower value, and one has this
pub minima_true : (n : ℕ) (q s : ℕ → ℕ) (g : Generator) (m : ℕ → Mark) → GoodUnit g → T (not (is_stuck n g m))
    → ((r : List ℕ) → Candidate n g m r → unit_least n q s g m ≤ℤ value n q s g r)
    × ((r : List ℕ) × Candidate n g m r × (value n q s g r ≡ unit_least n q s g m))
minima_true n q s g m good free = (least.unit_least_below n q s g m, least.unit_least_attained n q s g m good free)

-- likewise those of a ramp leaf, over the same rows
pub ramp_minima_true : (n : ℕ) (q s x y : ℕ → ℕ) (g : Generator) (m : ℕ → Mark) → GoodUnit g → T (not (is_stuck n g m))
    → ((r : List ℕ) → Candidate n g m r → ramp_least n q s x y g m ≤ℤ ramp_value n q s x y g r)
    × ((r : List ℕ) × Candidate n g m r × (ramp_value n q s x y g r ≡ ramp_least n q s x y g m))
ramp_minima_true n q s x y g m good free = (least.ramp_least_below n q s x y g m, least.ramp_least_attained n q s x y g m good free)

-- ---- For every list of texts, lodged in turn in a fresh docket: each text is exactly one thing at its place, and the texts alone decide which

pub texts_decide : (texts : List (List ℕ)) → (vs : List Verdict) × Are none texts vs × ((us : List Verdict) → Are none texts us → vs ≡ us)
texts_decide texts = (verdicts_of none texts, verdicts_are none tt texts, λ us a. one_list none texts (verdicts_of none texts) us tt (verdicts_are none tt texts) a)

-- so let vs be what they are; `given vs` is the problem that they gave, `after texts` the docket after them, `answer texts text` the answer to one text more
module _ (texts : List (List ℕ)) (vs : List Verdict) (are : Are none texts vs) where
  -- The accepted texts are exactly those that nothing refuses at their place, and every text gets the answer due to it, held or passed
  pub accepted_when : (text : List ℕ) → Accepted (given vs) text ↔ ((r : Refusal) → Is (given vs) text (verdict.refused r) → ⊥)
  accepted_when = accepted_is (given vs) (each.fine texts vs are)

  pub refused_after : (text : List ℕ) (r : Refusal)
      → (answer texts text ≡ refused r.number r.line r.unit r.period) ↔ Is (given vs) text (verdict.refused r)
  refused_after = each.refused_as texts vs are

  pub answered : (text : List ℕ) (v : Verdict) → Is (given vs) text v → answer texts text ≡ answer_due vs v
  answered = each.due texts vs are

  -- 2. While no problem is held, a text is accepted exactly when it is that of a well-formed problem, which is held as its text gives it
  pub problem_accepted : given vs ≡ none → (text : List ℕ) (x : AnswerValues) → Carries (answer texts text) x ↔ (((P : Instance) × ProblemText text P) × (x ≡ no_values))
  problem_accepted = each.problem_as texts vs are

  pub problem_held : given vs ≡ none → (text : List ℕ) (P : Instance) → ProblemText text P
      → ((lodge_of (after texts) text).docket.known ≡ true) × (view (lodge_of (after texts) text).docket.problem ≡ P)
  problem_held = each.problem_held texts vs are

  -- 3. While no problem is held nothing is. No schedule is held exactly where none was accepted, no bound exactly where no tree was
  pub nothing_yet : given vs ≡ none → after texts ≡ fresh_docket
  nothing_yet = holdings.nothing_yet texts vs are

  pub schedule_or_none : ((after texts).held.cost ≡ None) ↔ (schedules vs ≡ [])
  schedule_or_none = holdings.no_cost_is texts vs are

  pub bound_or_none : ((after texts).held.bound ≡ bound.Nothing) ↔ (trees vs ≡ [])
  bound_or_none = holdings.no_bound_is texts vs are

  -- The report, at every buffer and place: the docket stays; the seven lines due to the accepted texts are written there, or it is 43
  pub reports : (b : List ℕ) (k : ℕ) → Reports vs (after texts) b k (report_of (after texts) b k) (buffer_of (after texts) b k)
  reports = reports_then lodge_of demand3 texts vs are

  module _ (P : Instance) (known : given vs ≡ some P) where
    pub holds_it : ((after texts).known ≡ true) × (view (after texts).problem ≡ P)
    holds_it = each.is_held texts vs are P known

    -- 2. Well-formed, for a schedule or tree, means what document 01 says, line by line (`Formed`, text/specs/WellFormed.antt). Such texts are exactly the short ones
    -- of a writer and rows in range, or of a writer and a tree within the limits, and none is the text of two
    pub well_formed_schedule : (text : List ℕ) → schedule_lines.WellFormed P text ↔ (Short text × ((w : ℕ) × (s : Schedule) × ScheduleText P text w s))
    well_formed_schedule = each.schedule_formed_is texts vs are P known

    pub well_formed_tree : (text : List ℕ) → tree_lines.WellFormed P text ↔ (Short text × ((w : ℕ) × (t : Tree) × TreeText P text w t))
    well_formed_tree = each.tree_formed_is texts vs are P known

    pub one_schedule : (text : List ℕ) (w w' : ℕ) (s s' : Schedule) → ScheduleText P text w s → ScheduleText P text w' s' → (w ≡ w') × (s ≡ s')
    one_schedule = each.one_schedule texts vs are P known

    pub one_tree : (text : List ℕ) (w w' : ℕ) (t t' : Tree) → TreeText P text w t → TreeText P text w' t' → (w ≡ w') × (t ≡ t')
    one_tree = each.one_tree texts vs are P known

    -- Under a held problem, the well-formed schedules that are accepted are those that meet the rules, each at the cost of (1)
    pub schedule_accepted : (text : List ℕ) → schedule_lines.WellFormed P text
        → (w : ℕ) × (s : Schedule) × ScheduleText P text w s × ((x : AnswerValues) → Carries (answer texts text) x ↔ (Meets P s × (x ≡ its_cost (model.cost P s))))
    schedule_accepted = each.schedule_by_lines texts vs are P known

    -- and the well-formed trees are those whose leaves all meet their rules, each with its bound and its counts of split lines and leaves
    pub tree_accepted : (text : List ℕ) → tree_lines.WellFormed P text
        → (w : ℕ) × (t : Tree) × TreeText P text w t
        × ((x : AnswerValues) → Carries (answer texts text) x ↔ (Holds P root t × (x ≡ its_bound (tree_figures P t))))
    tree_accepted = each.tree_by_lines texts vs are P known

    -- and no other text is accepted
    pub nothing_else : (text : List ℕ) (x : AnswerValues) → Carries (answer texts text) x → OfSchedule P text x ⊎ OfTree P text x
    nothing_else = each.nothing_else texts vs are P known

    -- so none that is not well-formed
    pub only_well_formed : (text : List ℕ) (x : AnswerValues) → Carries (answer texts text) x → schedule_lines.WellFormed P text ⊎ tree_lines.WellFormed P text
    only_well_formed = each.only_formed texts vs are P known

    module _ (by : CostBy) (e : (after texts).held.cost ≡ Some by) where
      -- 3. Of the accepted schedules with the least cost the first is held, with its writer; it meets the rules, at the cost of (1)
      pub held_schedule : (s : Costed) × FirstLeast (λ x. x.cost) s (schedules vs) × (by.cost ≡ s.cost) × (by.writer ≡ s.writer)
          × (schedule_of (after texts).problem (after texts).rows ≡ s.rows) × Meets P s.rows × (s.cost ≡ model.cost P s.rows)
      held_schedule = holdings.held_schedule texts vs are P known by e

      pub least_cost : (x : Costed) → Memᴰ x (schedules vs) → by.cost ≤ x.cost
      least_cost = holdings.least_of_all texts vs are P known by e

    module _ (by : BoundBy) (e : (after texts).held.bound ≡ bound.Number by) where
      -- Of the accepted trees with the highest bound the first gives the held bound and its writer
      pub held_number : (F : Bounded) × FirstHighest (λ x. x.figures.bound) F (trees vs) × (number by.value ≡ F.figures.bound) × (by.writer ≡ F.writer)
      held_number = holdings.held_number texts vs are P known by e

      pub highest_bound : (x : Bounded) → Memᴰ x (trees vs) → T (not (higher x.figures.bound (number by.value)))
      highest_bound = holdings.highest_of_all texts vs are P known by e

      -- No schedule of whole outputs that meets the rules costs less than the held bound, whether it was lodged or not
      pub never_undercut : (s : Schedule) → Meets P s → by.value ≤ℤ pos (model.cost P s)
      never_undercut = (holdings.its_number texts vs are P known by e).1

    module _ (by : NeverBy) (e : (after texts).held.bound ≡ bound.Never by) where
      pub held_never : (F : Bounded) × FirstHighest (λ x. x.figures.bound) F (trees vs) × (never ≡ F.figures.bound) × (by.writer ≡ F.writer)
      held_never = holdings.held_never texts vs are P known by e

      -- where never is held there is no such schedule
      pub none_exists : (s : Schedule) → Meets P s → ⊥
      none_exists = (holdings.its_never texts vs are P known by e).1

-- ---- Witnesses: document 01's marked specimens, each a list of texts that ends with its answer; what its example leaves held; and never held

pub specimens_hold : All (Answered lodge_of) specimens
specimens_hold = specimens_answered

pub example_held : (after listed_texts).held
    ≡ record { cost = Some (record { cost = 1980; writer = 7 }); bound = bound.Number (record { value = pos 1980; writer = 3 }) }
example_held = listing_held

pub never_held : (after (too_little ∷ short_tree ∷ [])).held.bound ≡ bound.Never (record { writer = 9 })
never_held = witness.never_held
