-- Document 01, Numbers that come from the docket, and The docket and its report: what lodging a text does.
use Rattle.std.specs.Prelude.{Bool, true, false, cond, ℕ, ltb, length, replicate, Err, None, Ok, Option, Result, Some}
use mathlib.Core.List.{List, flatten}
use Rattle.std.specs.Int.Signed.{lt_z}
use Rattle.model.specs.declared.arrays.Problem.{Problem}
use Rattle.model.specs.Instance.{Instance}
use Rattle.model.specs.Held as arrays
use Rattle.model.specs.Held.{view, pad}
use Rattle.model.specs.Figures.{Bound}
use Rattle.std.specs.Prelude.{None as never, Some as number}
use Rattle.refusal.specs.declared.Refusal.{Refusal}
use Rattle.refusal.specs.Refusals.{refusal_of}
use Rattle.text.specs.Lines.{line_at, kind_of}
use Rattle.text.specs.Course.{Judged, refused_at, accepted}
use Rattle.text.specs.declared.Kind.{Kind}
use Rattle.text.specs.declared.Kind.TheVariants as kind
use Rattle.problem.specs.Course.{problem_judged}
use Rattle.schedule.specs.ReadAnswers.{Outcome, refused_by, accepted_as, schedule_outcome}
use Rattle.tree.specs.Course as trees
use Rattle.tree.specs.Acceptance.{Bounded}
use Rattle.docket.specs.declared.Docket.{Docket}
use Rattle.docket.specs.declared.Lodged.{Lodged}
use Rattle.docket.specs.declared.held.Held.{Held}
use Rattle.docket.specs.declared.held.CostBy.{CostBy}
use Rattle.docket.specs.declared.held.HeldBound.{HeldBound}
use Rattle.docket.specs.declared.held.HeldBound.TheVariants as bound
use Rattle.docket.specs.declared.admission.Admission.{Admission}
use Rattle.docket.specs.declared.admission.Admission.TheVariants as admission
use Rattle.answer.specs.declared.Answer.{Answer}
use Rattle.answer.specs.declared.Answer.TheVariants.{Refused, TextHeld, ScheduleHeld, SchedulePassed, TreeHeld, TreePassed}
use Rattle.docket.specs.Docket.{nothing_held, fresh_docket, sound}
use Rattle.docket.specs.Verdicts.{Costed, Verdict, refused, problem, schedule, tree}

-- ---- what is asked before any line but the first: 11, the kind (12), 41 and 42, in that order

abbrev pub refuse_whole : ℕ → ℕ → Result Admission Refusal
refuse_whole n line = Err (refusal_of n line 0 0)

-- by the first line, and by whether a problem is held
abbrev pub admit_kind : Kind → Bool → Result Admission Refusal
admit_kind kind.Unknown known = refuse_whole 12 1
admit_kind kind.Problem true = refuse_whole 41 0
admit_kind kind.Problem false = Ok admission.Problem
admit_kind kind.Schedule true = Ok admission.Schedule
admit_kind kind.Schedule false = refuse_whole 42 0
admit_kind kind.Tree true = Ok admission.Tree
admit_kind kind.Tree false = refuse_whole 42 0

unfoldable pub admit : Bool → List ℕ → Result Admission Refusal
admit known text = cond (ltb 1048576 (length text)) (refuse_whole 11 0) (admit_kind (kind_of (line_at text 0)) known)

-- ---- then line by line, as a problem, a schedule or a tree

abbrev pub by_problem : Judged Instance → Verdict
by_problem (refused_at n l) = refused (refusal_of n l 0 0)
by_problem (accepted P) = problem P

abbrev pub by_schedule : Outcome → Verdict
by_schedule (refused_by r) = refused r
by_schedule (accepted_as w c s) = schedule (record { writer = w; cost = c; rows = s })

abbrev pub by_tree : Judged Bounded → Verdict
by_tree (refused_at n l) = refused (refusal_of n l 0 0)
by_tree (accepted F) = tree F

-- P is the problem that is held, if one is
abbrev pub verdict_by : Result Admission Refusal → Instance → List ℕ → Verdict
verdict_by (Err r) P text = refused r
verdict_by (Ok admission.Problem) P text = by_problem (problem_judged text)
verdict_by (Ok admission.Schedule) P text = by_schedule (schedule_outcome P text)
verdict_by (Ok admission.Tree) P text = by_tree (trees.tree_judged P text)

unfoldable pub text_judged : Bool → Instance → List ℕ → Verdict
text_judged known P text = verdict_by (admit known text) P text

-- ---- what is held then

abbrev pub lodged : Docket → Answer → Lodged
lodged d a = record { docket = d; answer = a }

abbrev pub with_held : Docket → Held → List ℕ → Docket
with_held d h rows = record { known = d.known; problem = d.problem; held = h; rows = rows }

-- a problem and nothing under it
abbrev pub with_problem : Problem → Docket
with_problem p = record { known = true; problem = p; held = nothing_held; rows = replicate 1536 0 }

-- whether a schedule of cost c takes the held one's place, or the empty one
abbrev pub is_less : ℕ → Option CostBy → Bool
is_less c None = true
is_less c (Some n) = ltb c n.cost

abbrev pub with_schedule : Docket → Costed → Docket
with_schedule d s =
    with_held d (record { cost = Some (record { cost = s.cost; writer = s.writer }); bound = d.held.bound })
    (pad 0 1536 (flatten s.rows))

-- whether the bound b takes the held one's place, or the empty one; no number is above never
abbrev pub is_higher : Bound → HeldBound → Bool
is_higher b bound.Nothing = true
is_higher b (bound.Never n) = false
is_higher never (bound.Number n) = true
is_higher (number z) (bound.Number n) = lt_z n.value z

abbrev pub bound_by : Bound → ℕ → HeldBound
bound_by never w = bound.Never (record { writer = w })
bound_by (number z) w = bound.Number (record { value = z; writer = w })

abbrev pub with_bound : Docket → Bounded → Docket
with_bound d F = with_held d (record { cost = d.held.cost; bound = bound_by F.figures.bound F.writer }) d.rows

-- what was given stays where the text is refused or passed; an accepted text is held over d
abbrev pub hold : Docket → Docket → Verdict → Lodged
hold was d (refused r) = lodged was (Refused r)
hold was d (problem P) = lodged (with_problem (arrays.held P)) TextHeld
hold was d (schedule s) =
    cond (is_less s.cost d.held.cost) (lodged (with_schedule d s) (ScheduleHeld s.cost)) (lodged was (SchedulePassed s.cost))
hold was d (tree F) =
    cond (is_higher F.figures.bound d.held.bound) (lodged (with_bound d F) (TreeHeld F.figures)) (lodged was (TreePassed F.figures))

-- a value that is not sound is taken for a fresh docket
abbrev pub trusted : Docket → Docket
trusted d = cond (sound d) d fresh_docket

-- every lodging
unfoldable pub lodge_of : Docket → List ℕ → Lodged
lodge_of d text = hold d (trusted d) (text_judged (trusted d).known (view (trusted d).problem) text)
