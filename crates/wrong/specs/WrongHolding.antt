-- Wrong ways of holding what was judged, written out: each holds something else than document 01, The docket and its report, says.
use Rattle.std.specs.Prelude.{Bool, true, false, not, cond, ℕ, leb, pos, ◌+ℤ◌, replicate, None, Option, Some}
use Rattle.std.specs.Int.Signed.{lt_z}
use Rattle.model.specs.declared.arrays.Problem.{Problem}
use Rattle.model.specs.Held as arrays
use Rattle.model.specs.Held.{view}
use Rattle.model.specs.Figures.{Bound}
use Rattle.std.specs.Prelude.{None as never, Some as number}
use Rattle.model.specs.Figures.{tree_gives}
use Rattle.tree.specs.Acceptance.{Bounded, bounded}
use Rattle.docket.specs.declared.Docket.{Docket}
use Rattle.docket.specs.declared.Lodged.{Lodged}
use Rattle.docket.specs.declared.held.CostBy.{CostBy}
use Rattle.docket.specs.declared.held.HeldBound.{HeldBound}
use Rattle.docket.specs.declared.held.HeldBound.TheVariants as bound
use Rattle.answer.specs.declared.Answer.{Answer}
use Rattle.answer.specs.declared.Answer.TheVariants.{Refused, TextHeld, ScheduleHeld, SchedulePassed, TreeHeld, TreePassed}
use Rattle.docket.specs.Docket.{fresh_docket, no_cost, no_bound}
use Rattle.docket.specs.Verdicts.{Costed, Verdict, refused, problem, schedule, tree}
use Rattle.docket.specs.Lodging.{text_judged, lodged, with_held, with_problem, with_schedule, with_bound, is_less, is_higher, hold, lodge_of}
use Rattle.docket.specs.Demand3.{Lodging}

-- a text is judged as it should be, and then held by h
abbrev pub holding_by : (Docket → Verdict → Lodged) → Lodging
holding_by h d text = h d (text_judged d.known (view d.problem) text)

-- ---- another schedule

-- an accepted schedule is held where the test says so, as this docket
abbrev pub hold_schedule_if : (Docket → Costed → Bool) → (Docket → Costed → Docket) → Docket → Verdict → Lodged
hold_schedule_if test held d (refused r) = hold d d (refused r)
hold_schedule_if test held d (problem P) = hold d d (problem P)
hold_schedule_if test held d (schedule s) = cond (test d s) (lodged (held d s) (ScheduleHeld s.cost)) (lodged d (SchedulePassed s.cost))
hold_schedule_if test held d (tree F) = hold d d (tree F)

-- the last of equals: one that costs no more than the held one
abbrev pub not_more : ℕ → Option CostBy → Bool
not_more c None = true
not_more c (Some n) = leb c n.cost

abbrev pub hold_last : Docket → Verdict → Lodged
hold_last = hold_schedule_if (λ d s. not_more s.cost d.held.cost) with_schedule

abbrev pub keeping_last : Lodging
keeping_last = holding_by hold_last

-- its rows lost
abbrev pub without_rows : Docket → Costed → Docket
without_rows d s = with_held d (with_schedule d s).held d.rows

abbrev pub hold_cost_alone : Docket → Verdict → Lodged
hold_cost_alone = hold_schedule_if (λ d s. is_less s.cost d.held.cost) without_rows

abbrev pub rows_lost : Lodging
rows_lost = holding_by hold_cost_alone

-- another writer
abbrev pub by_one : Docket → Costed → Docket
by_one d s = with_schedule d (record { writer = 1; cost = s.cost; rows = s.rows })

abbrev pub hold_by_one : Docket → Verdict → Lodged
hold_by_one = hold_schedule_if (λ d s. is_less s.cost d.held.cost) by_one

abbrev pub one_writer : Lodging
one_writer = holding_by hold_by_one

-- ---- another bound

-- an accepted tree is held where the test says so, with this bound
abbrev pub hold_tree_if : (Docket → Bounded → Bool) → (Bound → Bound) → Docket → Verdict → Lodged
hold_tree_if test raised d (refused r) = hold d d (refused r)
hold_tree_if test raised d (problem P) = hold d d (problem P)
hold_tree_if test raised d (schedule s) = hold d d (schedule s)
hold_tree_if test raised d (tree F) =
    cond (test d F)
    (lodged (with_bound d (bounded F.writer (tree_gives (raised F.figures.bound) F.figures.splits F.figures.leaves))) (TreeHeld F.figures))
    (lodged d (TreePassed F.figures))

-- the last of equals: one whose bound is not below the held one
abbrev pub not_lower : Bound → HeldBound → Bool
not_lower b bound.Nothing = true
not_lower never (bound.Number n) = true
not_lower (number z) (bound.Number n) = not (lt_z z n.value)
not_lower never (bound.Never n) = true
not_lower (number z) (bound.Never n) = false

abbrev pub hold_last_tree : Docket → Verdict → Lodged
hold_last_tree = hold_tree_if (λ d F. not_lower F.figures.bound d.held.bound) (λ b. b)

abbrev pub keeping_last_tree : Lodging
keeping_last_tree = holding_by hold_last_tree

-- never, of every tree
abbrev pub hold_never : Docket → Verdict → Lodged
hold_never = hold_tree_if (λ d F. is_higher F.figures.bound d.held.bound) (λ b. never)

abbrev pub never_claimed : Lodging
never_claimed = holding_by hold_never

-- one more than the tree gave
abbrev pub one_above : Bound → Bound
one_above never = never
one_above (number z) = number (z +ℤ pos 1)

abbrev pub hold_more : Docket → Verdict → Lodged
hold_more = hold_tree_if (λ d F. is_higher F.figures.bound d.held.bound) one_above

abbrev pub bound_raised : Lodging
bound_raised = holding_by hold_more

-- ---- another problem

-- without its demand
abbrev pub without_demand : Problem → Problem
without_demand p = record { periods = p.periods; units = p.units; demand = replicate 48 0; spare = p.spare; generators = p.generators }

abbrev pub hold_no_demand : Docket → Verdict → Lodged
hold_no_demand d (refused r) = hold d d (refused r)
hold_no_demand d (problem P) = lodged (with_problem (without_demand (arrays.held P))) TextHeld
hold_no_demand d (schedule s) = hold d d (schedule s)
hold_no_demand d (tree F) = hold d d (tree F)

abbrev pub demand_lost : Lodging
demand_lost = holding_by hold_no_demand

-- ---- lodged as it should be, and something else left

-- nothing changes once a schedule is held, or once a bound is
abbrev pub keeping_first : Lodging
keeping_first d text = cond (no_cost d.held.cost) (lodge_of d text) (lodged d (lodge_of d text).answer)

abbrev pub keeping_first_bound : Lodging
keeping_first_bound d text = cond (no_bound d.held.bound) (lodge_of d text) (lodged d (lodge_of d text).answer)

-- a refused text leaves nothing
abbrev pub left_by : Docket → Answer → Docket
left_by d (Refused r) = fresh_docket
left_by d TextHeld = d
left_by d (ScheduleHeld c) = d
left_by d (SchedulePassed c) = d
left_by d (TreeHeld x) = d
left_by d (TreePassed x) = d

abbrev pub refused_changes : Lodging
refused_changes d text = lodged (left_by (lodge_of d text).docket (lodge_of d text).answer) (lodge_of d text).answer

-- every bound is held as never
abbrev pub all_never : HeldBound → HeldBound
all_never bound.Nothing = bound.Nothing
all_never (bound.Number by) = bound.Never (record { writer = by.writer })
all_never (bound.Never by) = bound.Never by

abbrev pub with_never : Docket → Docket
with_never d = with_held d (record { cost = d.held.cost; bound = all_never d.held.bound }) d.rows

abbrev pub never_held : Lodging
never_held d text = lodged (with_never (lodge_of d text).docket) (lodge_of d text).answer
