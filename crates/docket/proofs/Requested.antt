-- What document 02 asks, request by request and clause by clause, each proved in a line; then witnesses. The words used are defined in specs/; what
-- the texts of a list are is `Is` and `Are` (specs/Texts.antt). What a request changes in problems, rules and refusals is in the definitions of which
-- Promises.antt speaks.
use mathlib.Core.Path.{◌≡◌, refl, sym, ap, ◌∙◌}
use mathlib.Core.Bool.{Bool, true, false, not}
use mathlib.Core.List.{List, [], ◌∷◌, ◌++◌, map, flatten}
use mathlib.Core.Logic.{◌⊎◌, ◌↔◌}
use mathlib.Core.Option.{Option, none, some}
use Rattle.std.specs.Prelude.{Result, Ok, Err}
use Prim.Native.Nat.{ℕ, suc, pred, ◌+◌, ◌*◌, ◌-◌, ◌≤◌, ◌<◌, min}
use native.Mathlib.Omega.{arith}
use lib.Dec.{T, lit<, lit≤}
use lib.IntN.{ℤ, pos, neg_ℤ, ◌+ℤ◌, ◌-ℤ◌, ◌*ℤ◌}
use lib.ListN.{length, get_or, take, set}
use lib.Signed.{◌≤ℤ◌}
use Rattle.decimal.specs.Decimal.{digits, digits_by}
use Rattle.model.specs.declared.generator.Generator.{Generator}
use Rattle.model.specs.Instance.{Instance, Schedule, ◌at◌, Each}
use Rattle.model.specs.Ranges.{All, InRange, Ordered, GoodUnit, WellFormed}
use Rattle.model.specs.Rules.{on, if_on, output, FirstRamp, MeetsPrinted, Meets}
use Rattle.model.specs.Cost.{row_cost, cost}
use Rattle.model.specs.Breach.{Breach}
use Rattle.model.specs.Broken.{Of, OffRamp, Broken, Lower}
use Rattle.model.specs.Held.{blank_generator}
use Rattle.model.specs.Above as marks
use Rattle.model.specs.Above.{Mark, Above, root, count, side, allows, obeys, Marks, mark}
use Rattle.model.specs.Largest.{total, falling, largest, LargestSum, FallingOrder}
use Rattle.model.specs.Leaf.{usable, available, not_off, Crowded, those, is_stuck, any_stuck, rows_of, revenue, value, unit_least, units_least, requirement, leaf_value}
use Rattle.model.specs.Forced.{unit_answer, force, forced_least, lesser_entry, forced_table, forced_tables}
use Rattle.model.specs.Runs.{least_row, Attains, Precedes, ByOutputs, ByStatuses, first_stuck, least_rows, shortfall, shortfalls}
use Rattle.model.specs.Ramps.{over_rise, over_fall, sumℤ, ramp_charge, ramp_value, Steps, ramp_leasts, ramp_leaf_value, RampPrices, ups, downs, Unpriced}
use Rattle.std.specs.Prelude.{None as never, Some as number}
use Rattle.model.specs.Turns.{in_turn, took, Fewest}
use Rattle.model.specs.Tree.{Leaf, short, crowd, stuck, price, ramp, Tree, leaf, fork, Narrows, GoodFork, GoodLeaf, HasPrices, LeafHolds, leaf_bound, Limits, Holds, bound, tree_figures}
use Rattle.model.specs.Agreement.{running, Agrees, Candidate, LeafOf, above, leaf_at, OneLeaf}
use Rattle.model.specs.Possible.{Possible, possible, NodeOf, above_node, counts_above}
use Rattle.model.specs.Unread.{AlikeButMidnight}
use Rattle.model.proofs.Sides as sides
use Rattle.model.proofs.Leaves as leaves
use Rattle.model.proofs.Capacities as capacities
use Rattle.model.proofs.FallingOrders as orders
use Rattle.model.proofs.Turns as turns
use Rattle.model.proofs.Ignored as ignored
use Rattle.model.proofs.EveryLeaf as each_leaf
use Rattle.model.proofs.RampRules as ramp_rules
use Rattle.model.proofs.RampLeaf as ramp_leaf
use Rattle.model.proofs.Narrowing as narrowing
use Rattle.model.proofs.ForcedLeasts as forced_leasts
use Rattle.model.proofs.LeastRows as rows
use Rattle.model.proofs.LeafRuns as leaf_runs
use Rattle.model.proofs.Unread as unread
use Rattle.walk.specs.Marks.{mark_of, marks_in, marks_of}
use Rattle.text.specs.Lines.{Line, ended, later, lines_of, kind_tree, end_problem}
use Rattle.text.specs.Rendering.{plain_line}
use Rattle.text.specs.LineRefused.{Renders}
use Rattle.problem.specs.Units.{unit_line, unit_form}
use Rattle.problem.specs.Rendering.{lines_after}
use Rattle.text.specs.Strings.{bytes}
use Rattle.problem.specs.Refusals.{unit}
use Rattle.problem.proofs.Examples.{example, example_formed}
use Rattle.tree.specs.Rendering.{short_key, crowd_key, step_lines, fork_line, node_lines, is_split_line}
use Rattle.tree.specs.Places.{Part, first_line, in_first, HoldsAmong}
use Rattle.tree.specs.Refusals.{count_line, node_form, NodeBreaks, Ends, PartBreaks, BrokenAt}
use Rattle.tree.specs.WellFormed as tree_lines
use Rattle.tree.proofs.SplitCounts.{split_lines}
use Rattle.answer.specs.StatedAnswers.{AnswerValues, refused, Carries}
use Rattle.least.specs.UnitLeasts.{least_of}
use Rattle.leaves.specs.declared.short.Taken.{Taken}
use Rattle.runs.specs.declared.drafting.NoRuns.TheVariants as runs
use Rattle.runs.specs.declared.question.Unanswered.{Unanswered}
use Rattle.runs.specs.declared.question.Unanswered.TheVariants.{NoProblem, Unfit}
use Rattle.runs.specs.Drafts.{Drafted, unwritten, drafted, draft_under}
use Rattle.forced.specs.Answers as entries
use Rattle.forced.specs.Answers.{untold, told_under}
use Rattle.docket.specs.declared.Docket.{Docket}
use Rattle.docket.specs.declared.held.BoundBy.{BoundBy}
use Rattle.docket.specs.declared.held.HeldBound.TheVariants as bound
use Rattle.docket.specs.Verdicts.{Verdict, problem}
use Rattle.docket.specs.Texts.{Short, Begins, Is, Are, no_more, then}
use Rattle.docket.specs.Lodging.{lodge_of}
use Rattle.docket.specs.Promised.{after, answer, given, ScheduleText, Long, JudgesBy}
use Rattle.docket.specs.Specimens.{problem_of, listed_problem, tree_text, count_twice, specimens, Answered}
use Rattle.docket.specs.Docket.{sound}
use Rattle.docket.specs.Taking.{FitQuestion, asked, taken_under, taken_of}
use Rattle.docket.specs.Drafting.{runs_of}
use Rattle.docket.specs.Forcing.{forced_of}
use Rattle.docket.specs.Requested.{NodeLineDue, PartLineDue, TakenThere, Told, AsAsked, Midnight, in_period_1, UnitLineDue, as_entry, Entries, EntriesTold, LeafRuns, DraftTold, leaf_runs, status_bytes, status_byte}
use Rattle.docket.proofs.SpecimenTexts.{is_listed_problem}
use Rattle.docket.proofs.SpecimenList.{specimens_answered}
use Rattle.docket.proofs.CountLines as count_lines
use Rattle.docket.proofs.RampLines as ramp_texts
use Rattle.docket.proofs.UnitsTold as telling
use Rattle.docket.proofs.RunsTold as drafting
use Rattle.docket.proofs.ForcedTold as forcing
use Rattle.docket.proofs.ForcedSplits as splits
use Rattle.docket.proofs.Midnight as midnight
use Rattle.docket.proofs.Promises as promises

-- ---- [1] Splitting on how many units are on

-- The tree of a text, what stands above its nodes and which schedules agree with that are definitions of crates/model/specs (Above, Agreement, Tree)

-- Where a count line may stand, under its first tree are exactly the schedules of those above it with at most K units on in its period, under its second those with
-- K + 1 or more. How many are on is (23) of the source, and to agree with the counts above a node is to keep (27) and (28) (`running_is`, `agrees_is`,
-- crates/source/proofs/Counts.antt)
pub count_splits : (P : Instance) (A : Above) (t K : ℕ) → GoodFork P A (count t K) → (s : Schedule)
    → (Agrees (side (count t K) false A) s ↔ (Agrees A s × (running s t ≤ K))) × (Agrees (side (count t K) true A) s ↔ (Agrees A s × (K < running s t)))
count_splits = sides.count_sides

-- So, statuses and counts together, every schedule agrees with exactly one leaf of every tree within the limits
pub one_leaf : (P : Instance) (t : Tree) → Limits P root 0 t → (s : Schedule) → OneLeaf root t s
one_leaf = leaves.one_leaf

-- Where an upper count K stands `short` sums the K largest pU of the units not fixed off: the largest sum that K of them have, or all if they are fewer. Where none
-- stands it sums them all, as it did
pub short_sums : (P : Instance) (A : Above) (t : ℕ)
    → ((K : ℕ) → A.most t ≡ some K → LargestSum K (usable P.units A.marks t) (available P A t))
    × (A.most t ≡ none → available P A t ≡ total (usable P.units A.marks t))
short_sums P A t = (capacities.available_counted P A t, capacities.available_free P A t)

-- Where a `short` or a `crowd` leaf holds, no schedule that meets the rules agrees with what stands above it
pub leaves_exclude : (P : Instance) (s : Schedule) → MeetsPrinted P s → (A : Above) → Agrees A s → (t : ℕ) → (LeafHolds P A (short t) → ⊥) × (LeafHolds P A (crowd t) → ⊥)
unfolding LeafHolds
leaves_exclude P s M A a t = (λ h. capacities.short_excludes P s M A a t h.0 h.1, λ h. capacities.crowd_excludes P s M A a t h.1)

-- Price leaves do not read counts, nor do `stuck` and 35: under the same statuses they are the same whatever counts stand. That a bound is a lower bound
-- is `bounds_below` below and `none_exists` of Promises.antt, for every tree
pub counts_unread : (P : Instance) (A B : Above) → A.marks ≡ B.marks
    → ((q s : List ℕ) → (leaf_bound P A (price q s) ≡ leaf_bound P B (price q s)) × (LeafHolds P A (price q s) ≡ LeafHolds P B (price q s)))
    × ((U : ℕ) → LeafHolds P A (stuck U) ≡ LeafHolds P B (stuck U))
counts_unread P A B e = (λ q s. (ignored.prices_ignore P A B e q s, ignored.prices_hold_alike P A B e q s), ignored.stuck_holds_alike P A B e)

-- The splits of the answer are the lines of the tree that begin with split= or count=
pub count_is_split : (P : Instance) (t : Tree) → (tree_figures P t).splits ≡ length (those is_split_line (node_lines t))
count_is_split P t = split_lines t

-- 37 is among the numbers of a well-formed tree, as 31 and 32 are: where it breaks a line at its place the text is none. 36 is not, as no leaf's number is: the well-formed
-- texts are those of the trees within the limits, whether their leaves hold or not (`well_formed_tree` of Promises.antt)
pub thirty_seven_unformed : (P : Instance) (text : List ℕ) (m : ℕ) → BrokenAt P 37 m (later (lines_of text)) → tree_lines.WellFormed P text → ⊥
thirty_seven_unformed P text m b w = w.unbroken 37 m refl b

module _ (P : Instance) (W : WellFormed P) where
  module _ (t : Tree) (limits : Limits P root 0 t) where
    -- Above every node the numbers of units on that are possible in a period, between the counts that stand, are `possible` in a row, and one at least
    pub counts_possible : (n : NodeOf t) (v : ℕ) → (1 ≤ possible P (above_node root t n) v)
        × ((k : ℕ) → Possible P (above_node root t n) v k ↔ (((above_node root t n).least v ≤ k) × (k < (above_node root t n).least v + possible P (above_node root t n) v)))
    counts_possible n v = (narrowing.node_possible P W.units_in.0 t limits n v, narrowing.node_numbers P W.units_in.0 t limits n v)

    -- so at most I counts of a period stand above a leaf,
    pub counts_within : (i : LeafOf t) (v : ℕ) → counts_above t i v ≤ length P.units
    counts_within = narrowing.counts_within P W.units_in.0 t limits

  -- since a count leaves fewer of its period on either side, and of no other fewer or more
  pub counts_narrow : (A : Above) (t K : ℕ) → GoodFork P A (count t K) → (b : Bool)
      → (possible P (side (count t K) b A) t < possible P A t) × ((v : ℕ) → (t ≡ v → ⊥) → possible P (side (count t K) b A) v ≡ possible P A v)
  counts_narrow A t K g b = (narrowing.counts_narrow P W.units_in.0 A t K g b, narrowing.others_keep P A t K b)

-- ---- [2] The capacity sum may stop when enough

-- The units that `short` may use are taken in turn: by number where no upper count stands; where K stands the largest pU first, the first K of them in falling order,
-- which is one order of their pU and no other
pub taken_in_turn : (P : Instance) (A : Above) (t : ℕ)
    → (A.most t ≡ none → in_turn P A t ≡ usable P.units A.marks t)
    × ((K : ℕ) → A.most t ≡ some K → (o : List ℕ) → FallingOrder (usable P.units A.marks t) o → in_turn P A t ≡ take K o)
taken_in_turn P A t = (turns.turns_free P A t, turns.turns_counted P A t)

pub one_order : (l : List ℕ) → (o : List ℕ) × FallingOrder l o × ((p : List ℕ) → FallingOrder l p → p ≡ o)
one_order l = (falling l, orders.falling_is l, orders.falling_one l)

-- so that all that it sums are the units not fixed off, or K of them if they are more
pub summed_many : (P : Instance) (A : Above) (t : ℕ)
    → (A.most t ≡ none → length (in_turn P A t) ≡ not_off P.units A.marks t)
    × ((K : ℕ) → A.most t ≡ some K → length (in_turn P A t) ≡ min K (not_off P.units A.marks t))
summed_many P A t = turns.turns_many P A t

-- As many are taken as are the fewest, from the front, that reach d, or all if they don't: `took` is that number, and no other is
pub takes_fewest : (l : List ℕ) (d : ℕ) → Fewest l d (took l d) × ((n : ℕ) → Fewest l d n → n ≡ took l d)
takes_fewest l d = (turns.took_is l d, λ n F. turns.fewest_one l d n (took l d) F (turns.took_is l d))

-- so that what stands behind numbers that reach d is not read
pub takes_no_more : (k l : List ℕ) (d : ℕ) → d ≤ total k → took (k ++ l) d ≡ took k d
takes_no_more = turns.took_stops

-- What is promised of `short` is the same: the sum of those taken is below d exactly where the sum of all is, and that sum is what `short` summed before
pub stops_same : (l : List ℕ) (d : ℕ) → (total (take (took l d) l) < d) ↔ (total l < d)
stops_same = turns.stops_same

pub sum_stays : (P : Instance) (A : Above) (t : ℕ) → total (in_turn P A t) ≡ available P A t
sum_stays = turns.in_turn_total

-- So a `short` leaf that holds has taken all that it sums, and only one that does not, which is 33, ends with fewer
pub all_taken : (P : Instance) (A : Above) (t : ℕ) → LeafHolds P A (short t) → took (in_turn P A t) (P.demand at t + P.spare at t) ≡ length (in_turn P A t)
unfolding LeafHolds
all_taken P A t h = turns.took_all (in_turn P A t) (P.demand at t + P.spare at t) (omega (arith, h.1, turns.in_turn_total P A t))

-- What a docket tells who asks is, of every value of it, what `Told` says (docket/specs/Requested.antt) under the problem by which it judges, and one answer alone is that
pub told_anywhere : (d : Docket) → Long d → (o : Option Instance) → JudgesBy d o → (period most : ℕ) (fixed : List ℕ) → Told period most fixed o (taken_of d period most fixed)
told_anywhere = telling.told_anywhere

pub told_one : (period most : ℕ) (fixed : List ℕ) (o : Option Instance) (a b : Result Taken Unanswered) → Told period most fixed o a → Told period most fixed o b → a ≡ b
told_one = telling.told_one

-- It is what holds of a leaf of a tree, where the same statuses and the same upper count stand for the period, whatever stands for other periods
pub asked_as_leaf : (P : Instance) (period most : ℕ) (fixed : List ℕ) → FitQuestion P period most fixed → (A : Above) → AsAsked P (period - 1) most fixed A
    → (u : Taken) → TakenThere P (asked P (period - 1) most fixed) (period - 1) u → TakenThere P A (period - 1) u
asked_as_leaf P period most fixed F A a = telling.asked_there P period most fixed F A a

-- ---- [6] Prices on the ramps

-- A ramp leaf is written as its T multipliers, the reserve line, and then for every unit in turn its up line and its down line
pub ramp_lines : (q s : List ℕ) (l : List RampPrices) → node_lines (leaf (ramp q s l)) ≡ plain_line (bytes "rampprice=") q ∷ plain_line (bytes "reserve=") s ∷ step_lines l
unfolding node_lines
ramp_lines q s l = refl

pub unit_lines : (x : RampPrices) (l : List RampPrices) → step_lines (x ∷ l) ≡ plain_line (bytes "up=") x.up ∷ plain_line (bytes "down=") x.down ∷ step_lines l
unit_lines x l = refl

-- Within the limits it has T multipliers on each of its first two lines and T - 1 on each of the others, two for every unit; in one period these are absent
pub ramp_shape : (P : Instance) (q s : List ℕ) (l : List RampPrices) → GoodLeaf P (ramp q s l)
    → (length q ≡ P.periods) × (length s ≡ P.periods) × (P.periods ≡ 1 → length l ≡ 0) × ((P.periods ≡ 1 → ⊥) → length l ≡ length P.units)
    × All (λ x. (length x.up ≡ P.periods - 1) × (length x.down ≡ P.periods - 1)) l
ramp_shape = ramp_leaf.good_shape

-- To a row's value at the prices are added, for each period from the second, number t of the ups times the left side of (12) less its right side, and number t of the
-- downs times the left side of (11) less its right side, p being the output of the period before, p' that of the period, and u, u' their statuses, on or off: up times
-- p' - (p + UR·u + pU·(1 - u)), down times (p - DR·u - pU·(1 - u')) - p'. `rise_printed`, `fall_printed` and `charge_printed` of crates/source/proofs/Ramps.antt say that
-- these are the source's, with its own letters
pub ramp_printed : (n : ℕ) (q s x y : ℕ → ℕ) (g : Generator) (r : List ℕ) → ramp_value n q s x y g r ≡ value n q s g r +ℤ sumℤ (pred n) (λ t.
    let p = r at t in
    let p' = r at suc t in
    (pos (x t) *ℤ (pos p' -ℤ (pos p +ℤ pos (if_on (on p) g.UR) +ℤ pos (if_on (not (on p)) g.pU))))
    +ℤ (pos (y t) *ℤ ((pos p -ℤ pos (if_on (on p) g.DR) -ℤ pos (if_on (not (on p')) g.pU)) -ℤ pos p')))
unfolding ramp_value ramp_charge
ramp_printed n q s x y g r = refl

-- Each of these differences is 0 or below for a schedule that keeps the rules, in every unit and every period from the second
pub ramps_not_above : (P : Instance) (sch : Schedule) → MeetsPrinted P sch
    → Each (λ g r. (t : ℕ) → suc t < P.periods → (over_rise g (r at t) (r at suc t) ≤ℤ pos 0) × (over_fall g (r at t) (r at suc t) ≤ℤ pos 0)) P.units sch
ramps_not_above = ramp_rules.steps_kept

-- The leaf's value is the sum of the units' leasts of it and of q·D + s·(D + R) over the periods; the leasts are true minima (`ramp_minima_true` of Promises.antt). In a
-- tree's bound it counts as a price leaf's does: both are numbers, of which the bound is the smallest (`bound_smallest` there)
pub ramp_counts : (P : Instance) (A : Above) (q s : List ℕ) (l : List RampPrices)
    → (leaf_bound P A (ramp q s l) ≡ number (ramp_leasts P.periods (λ t. q at t) (λ t. s at t) (ups l) (downs l) P.units A.marks +ℤ pos (requirement P (λ t. q at t) (λ t. s at t))))
    × (leaf_bound P A (price q s) ≡ number (units_least P.periods (λ t. q at t) (λ t. s at t) P.units A.marks +ℤ pos (requirement P (λ t. q at t) (λ t. s at t))))
unfolding leaf_bound ramp_leaf_value leaf_value
ramp_counts P A q s l = (refl, refl)

-- So a bound is never exactly where no leaf has prices, of either kind
pub never_exactly : (P : Instance) (t : Tree) → (bound P root t ≡ never) ↔ ((i : LeafOf t) → HasPrices (leaf_at t i) → ⊥)
never_exactly P t = each_leaf.never_exactly P root t

-- Whatever its multipliers, no schedule that meets the rules and agrees with what stands above it costs less; that no schedule at all undercuts a held bound is
-- `bounds_below` below, for every tree
pub ramp_undercut : (P : Instance) (sch : Schedule) → MeetsPrinted P sch → (A : Above) → Agrees A sch → (q s : ℕ → ℕ) (x y : Steps)
    → ramp_leaf_value P A.marks q s x y ≤ℤ pos (cost P sch)
ramp_undercut = ramp_leaf.ramp_below

-- With all ramp multipliers 0 it equals the price leaf, and so it does in one period
pub ramp_flat : (P : Instance) (A : Above) (q s : List ℕ) (l : List RampPrices) → Unpriced l → leaf_bound P A (ramp q s l) ≡ leaf_bound P A (price q s)
ramp_flat = ramp_leaf.leaf_flat

pub ramp_one : (P : Instance) (A : Above) (q s : List ℕ) (l : List RampPrices) → P.periods ≡ 1 → leaf_bound P A (ramp q s l) ≡ leaf_bound P A (price q s)
ramp_one = ramp_leaf.leaf_one

-- It holds where a price leaf does, and like it reads no counts
pub ramp_holds : (P : Instance) (A : Above) (q s : List ℕ) (l : List RampPrices) → LeafHolds P A (ramp q s l) ≡ LeafHolds P A (price q s)
unfolding LeafHolds
ramp_holds P A q s l = refl

pub ramps_unread : (P : Instance) (A B : Above) → A.marks ≡ B.marks → (q s : List ℕ) (l : List RampPrices) → leaf_bound P A (ramp q s l) ≡ leaf_bound P B (ramp q s l)
ramps_unread = ignored.ramps_ignore

-- ---- [5] All forced statuses of a unit together

-- That all come from one walk forward and one backward is no statement: it is read in `fill_entries` (crates/forced/src/unit.rt), whose contract is that they are the single walks'. What
-- is proved of the walk forward stands in crates/model/proofs (`Passed`, `passed_next`, `entry_is`)

module _ (n : ℕ) (q s : ℕ → ℕ) (g : Generator) (m : ℕ → Mark) (t : ℕ) (d : Bool) where
  -- An entry is a unit's least value at the prices and the fixed statuses with period t forced to d. Where t is not fixed the other way it equals what the single walk
  -- (`unit_least`, crates/least) gives with d fixed in t too
  pub forced_as_fixed : T (allows (m t) d) → (forced_least n q s g m t d ≡ unit_answer n q s g (force t d m)) × (unit_answer n q s g (force t d m) ≡ as_entry (least_of n q s g (force t d m)))
  forced_as_fixed h = (forcing.forced_allowed n q s g m t d h, forcing.answer_walked n q s g (force t d m))

  -- It says stuck exactly when that is stuck or the status is fixed the other way,
  pub forced_stuck_when : (forced_least n q s g m t d ≡ none) ↔ (T (is_stuck n g (force t d m)) ⊎ T (not (allows (m t) d)))
  forced_stuck_when = forced_leasts.forced_stuck_when n q s g m t d

  -- which is where no run of statuses that obeys (5) to (10) and agrees with those fixed has d in t; so every entry of a stuck unit says it
  pub forced_none_runs : t < n → (forced_least n q s g m t d ≡ none) ↔ ((run : List Bool) → length run ≡ n → T (obeys g m run) → get_or run t false ≡ d → ⊥)
  forced_none_runs = forced_leasts.forced_none_runs n q s g m t d

  pub forced_stuck : T (is_stuck n g m) → t < n → forced_least n q s g m t d ≡ none
  forced_stuck = forced_leasts.forced_stuck n q s g m t d

  -- Else it is the least value of the rows that have the status there, of those over which the unit's least value is taken: none has less, and one has it
  pub forced_least_rows : GoodUnit g → t < n → (z : ℤ) → forced_least n q s g m t d ≡ some z
      → ((r : List ℕ) → Candidate n g m r → on (r at t) ≡ d → z ≤ℤ value n q s g r) × ((r : List ℕ) × Candidate n g m r × (on (r at t) ≡ d) × (value n q s g r ≡ z))
  forced_least_rows good l z e = (forced_leasts.forced_least_below n q s g m t d l z e, forced_leasts.forced_least_attained n q s g m t d good l z e)

  -- In a period that is fixed, the entry of its status is what the unit answers, and that of the other says stuck
  pub forced_same : m t ≡ marks.fixed d → forced_least n q s g m t d ≡ unit_answer n q s g m
  forced_same = forced_leasts.forced_same n q s g m t d

  pub forced_other : m t ≡ marks.fixed (not d) → forced_least n q s g m t d ≡ none
  forced_other = forced_leasts.forced_other n q s g m t d

-- The same of bytes, as `unit_least` takes them: the single walk with the byte of t set to d's
pub forced_as_bytes : (n : ℕ) (q s : ℕ → ℕ) (g : Generator) (bytes : List ℕ) (t : ℕ) (d : Bool) → t < length bytes → T (allows (mark_of (bytes at t)) d)
    → forced_least n q s g (marks_of bytes) t d ≡ as_entry (least_of n q s g (marks_of (set bytes t (status_byte (marks.fixed d)))))
forced_as_bytes n q s g bytes t d l h =
    let e = forced_as_fixed n q s g (marks_of bytes) t d h in
    e.0 ∙ e.1 ∙ ap (λ (m : ℕ → Mark). as_entry (least_of n q s g m)) (sym (splits.forced_bytes bytes t l d))

-- The lesser of a period's two entries, one that says stuck left out, is what the unit answers: in every period the same
pub forced_agree : (n : ℕ) (q s : ℕ → ℕ) (g : Generator) → GoodUnit g → (m : ℕ → Mark) (t : ℕ) → t < n
    → lesser_entry (forced_least n q s g m t false) (forced_least n q s g m t true) ≡ unit_answer n q s g m
forced_agree = forced_leasts.forced_agree

-- What a docket tells who asks is, of every value of it, what `EntriesTold` says (docket/specs/Requested.antt) under the problem by which it judges: each unit's entry for every
-- period and either status, at its place in the slices that are lent; and one answer alone is that
pub forced_anywhere : (q s fixed : List ℕ) (values : List ℤ) (stuck : List ℕ) (d : Docket) → Long d → (o : Option Instance) → JudgesBy d o
    → EntriesTold q s fixed values stuck o (forced_of d q s fixed values stuck)
forced_anywhere = forcing.told_anywhere

pub forced_one : (q s fixed : List ℕ) (values : List ℤ) (stuck : List ℕ) (o : Option Instance) (x y : entries.Told)
    → EntriesTold q s fixed values stuck o x → EntriesTold q s fixed values stuck o y → x ≡ y
forced_one = forcing.told_one

-- Of every price leaf of a tree within the limits, so of every accepted tree, asked with the statuses that are fixed above it of a docket that judges by the tree's problem: what the slices hold are the entries at
-- the leaf's prices and under those statuses
pub forced_at_leaf : (P : Instance) → WellFormed P → (t : Tree) → Limits P root 0 t → (i : LeafOf t) (q s : List ℕ) → leaf_at t i ≡ price q s
    → (values : List ℤ) (bytes : List ℕ) → length values ≡ 2 * (length P.units * P.periods) → length bytes ≡ 2 * (length P.units * P.periods)
    → (d : Docket) → Long d → JudgesBy d (some P)
    → let A = above root t i in
    (x : List ℤ) × (y : List ℕ) × Entries P A.marks (λ t. q at t) (λ t. s at t) x y
    × (forced_of d q s (status_bytes (length P.units) P.periods A.marks) values bytes ≡ record { answer = Ok tt; values = x; stuck = y })
forced_at_leaf = forcing.leaf_entries

-- What an entry foretells of a split on unit u in period t at a price leaf with m above it: where the entry of d is z, with d fixed the leaf's value is as far from what it is as z from
-- the unit's least value; where it says stuck, and d is not fixed otherwise, a unit is stuck on that side
pub forced_foretells : (P : Instance) (m : Marks) (q s : ℕ → ℕ) (u : ℕ) → u < length P.units → (t : ℕ) (d : Bool)
    → let g = get_or P.units u blank_generator in
    ((z : ℤ) → forced_least P.periods q s g (m u) t d ≡ some z → leaf_value P (mark u t d m) q s +ℤ unit_least P.periods q s g (m u) ≡ leaf_value P m q s +ℤ z)
    × (T (allows (m u t) d) → forced_least P.periods q s g (m u) t d ≡ none → T (any_stuck P.periods P.units (mark u t d m)))
forced_foretells P m q s u h t d = (splits.leaf_raised P m q s u h t d, splits.leaf_stuck P m q s u h t d)

-- ---- [7] The run behind a minimum

module _ (n : ℕ) (q s : ℕ → ℕ) (g : Generator) (good : GoodUnit g) (m : ℕ → Mark) (free : T (not (is_stuck n g m))) where
  -- The single-unit minimum gives a run that attains it: n outputs that obey (4) and (5) to (10) and agree with the marks, and whose value is the minimum
  pub run_attains : Attains n q s g m (least_row n q s g m)
  run_attains = rows.least_row_attains n q s g good m free

  -- Among equals it is off rather than on in the first period that differs, and then has the smallest output; no other run is and has
  pub run_precedes : (r : List ℕ) → Attains n q s g m r → Precedes (least_row n q s g m) r × (Precedes r (least_row n q s g m) → r ≡ least_row n q s g m)
  run_precedes r a = (rows.least_row_precedes n q s g good m free r a, rows.only_precedes n q s g good m free r a)

  -- It is the same run whether outputs are compared period by period, off being 0, or the statuses of all periods first and the outputs after
  pub run_by_outputs : (r : List ℕ) → Attains n q s g m r → ByOutputs (least_row n q s g m) r × (ByOutputs r (least_row n q s g m) → r ≡ least_row n q s g m)
  run_by_outputs r a = (rows.least_row_outputs n q s g good m free r a, rows.only_outputs n q s g good m free r a)

  pub run_by_statuses : (r : List ℕ) → Attains n q s g m r → ByStatuses (least_row n q s g m) r × (ByStatuses r (least_row n q s g m) → r ≡ least_row n q s g m)
  run_by_statuses r a = (rows.least_row_statuses n q s g good m free r a, rows.only_statuses n q s g good m free r a)

-- A price leaf gives, for each period, how far the runs fall short of D: with it they give D, and it is 0 where they give as much or more
pub falls_short : (P : Instance) (rs : Schedule) (t : ℕ)
    → (output P rs t < P.demand at t → output P rs t + shortfall P rs t ≡ P.demand at t) × (P.demand at t ≤ output P rs t → shortfall P rs t ≡ 0)
falls_short = leaf_runs.shortfall_is

-- What a docket tells who asks is, of every value of it, what `DraftTold` says (docket/specs/Requested.antt) under the problem by which it judges, with what the slices
-- that are lent then hold; and one answer alone is that. A question has a price leaf's multipliers: of a ramp leaf none can be asked
pub draft_anywhere : (q s fixed rows short : List ℕ) (d : Docket) → Long d → (o : Option Instance) → JudgesBy d o → DraftTold q s fixed rows short o (runs_of d q s fixed rows short)
draft_anywhere = drafting.told_anywhere

pub draft_one : (q s fixed rows short : List ℕ) (o : Option Instance) (x y : Drafted) → DraftTold q s fixed rows short o x → DraftTold q s fixed rows short o y → x ≡ y
draft_one = drafting.told_one

-- Of every price leaf of an accepted tree, asked with the statuses that are fixed above it of a docket that judges by the tree's problem: the answer is the leaf's value, which
-- is its part in the tree's bound, and what the slices hold are the leaf's runs and how far they fall short
pub leaf_gives : (P : Instance) → WellFormed P → (t : Tree) → Limits P root 0 t → Holds P root t → (i : LeafOf t) (q s : List ℕ) → leaf_at t i ≡ price q s
    → (rows gaps : List ℕ) → length rows ≡ length P.units * P.periods → length gaps ≡ P.periods → (d : Docket) → Long d → JudgesBy d (some P)
    → let A = above root t i in
    let z = leaf_value P A.marks (λ t. q at t) (λ t. s at t) in
    (rs : Schedule) × (leaf_runs P A (leaf_at t i) ≡ some rs) × LeafRuns P A.marks (λ t. q at t) (λ t. s at t) rs × (leaf_bound P A (leaf_at t i) ≡ number z)
    × (runs_of d q s (status_bytes (length P.units) P.periods A.marks) rows gaps ≡ record { answer = Ok z; rows = flatten rs; short = shortfalls P rs })
leaf_gives = drafting.leaf_gives

-- A ramp leaf gives none
pub ramp_gives_none : (P : Instance) (A : Above) (q s : List ℕ) (l : List RampPrices) → leaf_runs P A (ramp q s l) ≡ none
ramp_gives_none P A q s l = refl

-- For every list of texts, lodged in turn in a fresh docket: vs is what they are, `given vs` the problem that they gave, `answer texts text` the answer to
-- one text more
module _ (texts : List (List ℕ)) (vs : List Verdict) (are : Are none texts vs) where
  -- ---- [1] again: the numbers, at the line which is their place. Where a node is due at depth d with A above it,

  module _ (P : Instance) (known : given vs ≡ some P) (text : List ℕ) (before : List Line) (A : Above) (d : ℕ) where
    -- the numbers that refuse the line there are those of `NodeBreaks` (tree/specs/Refusals.antt), and no others: for a count line 12, 14, 13, 32, 37, for a crowd line
    -- 12, 14, 13, 36
    pub node_refused : (x : Line) → NodeLineDue P text before x A d → (n : ℕ) → (answer texts text ≡ refused n (2 + length before) 0 0) ↔ NodeBreaks P A d x n
    node_refused = count_lines.node_refused texts vs are P known text before A d

    -- So a count line with another count of values than two is 14
    pub count_two_values : (x : Line) (neg : Bool) (ns : List ℕ) → NodeLineDue P text before x A d → Renders (node_form P count_line) x neg ns → (length ns ≡ 2 → ⊥)
        → answer texts text ≡ refused 14 (2 + length before) 0 0
    count_two_values = count_lines.count_gets_14 texts vs are P known text before A d

    -- of two, one with a K of I or more is 13
    pub count_below_units : (x : Line) (neg : Bool) (ns : List ℕ) → NodeLineDue P text before x A d → Renders (node_form P count_line) x neg ns → length ns ≡ 2
        → length P.units ≤ ns at 1 → answer texts text ≡ refused 13 (2 + length before) 0 0
    count_below_units = count_lines.count_gets_13 texts vs are P known text before A d

    module _ (t K : ℕ) (u : NodeLineDue P text before (ended (fork_line (count t K))) A d) (h : t < P.periods) (k : K ≤ length P.units - 1) where
      -- one in range is 32 exactly below depth 63, whatever K is
      pub thirty_two_exactly : (answer texts text ≡ refused 32 (2 + length before) 0 0) ↔ (63 < d)
      thirty_two_exactly = count_lines.count_gets_32 texts vs are P known text before A d t K u h k

      -- and else 37 exactly where K is below the lower count that stands for its period, or not below the upper
      pub thirty_seven_exactly : d ≤ 63 → (answer texts text ≡ refused 37 (2 + length before) 0 0) ↔ (Narrows A t K → ⊥)
      thirty_seven_exactly = count_lines.count_gets_37 texts vs are P known text before A d t K u h k

    -- A short line in range is 33 exactly where what `short` sums reaches demand and spare
    pub thirty_three_exactly : (t : ℕ) → NodeLineDue P text before (ended (plain_line short_key (suc t ∷ []))) A d → t < P.periods
        → (answer texts text ≡ refused 33 (2 + length before) 0 0) ↔ (available P A t < P.demand at t + P.spare at t → ⊥)
    thirty_three_exactly = count_lines.short_gets_33 texts vs are P known text before A d

    -- A crowd line in range is 36 exactly where neither more units are fixed on than the upper count, nor fewer not fixed off than the lower
    pub thirty_six_exactly : (t : ℕ) → NodeLineDue P text before (ended (plain_line crowd_key (suc t ∷ []))) A d → t < P.periods
        → (answer texts text ≡ refused 36 (2 + length before) 0 0) ↔ (Crowded P A t → ⊥)
    thirty_six_exactly = count_lines.crowd_gets_36 texts vs are P known text before A d

  -- ---- [6] again: the numbers of a later line of a leaf, where it is due after a part of the leaf with A above it

  module _ (P : Instance) (known : given vs ≡ some P) (text : List ℕ) (before : List Line) (x : Line) (A : Above) (p : Part) (due : PartLineDue P text before x A p) where
    -- are those of `PartBreaks` (tree/specs/Refusals.antt), and no others
    pub part_refused : (n : ℕ) → (answer texts text ≡ refused n (2 + length before) 0 0) ↔ PartBreaks P A x p n
    part_refused = ramp_texts.part_refused texts vs are P known text before x A p due

    -- 35 comes exactly where the line is in range, ends its leaf, and a unit is stuck: at the leaf's last line and at no other
    pub thirty_five_exactly : (answer texts text ≡ refused 35 (2 + length before) 0 0) ↔ (((l : Leaf) × Ends P x p l) × T (any_stuck P.periods P.units A.marks))
    thirty_five_exactly = ramp_texts.last_gets_35 texts vs are P known text before x A p due

  -- ---- [2] again: asked of the docket after the texts

  pub units_told : (period most : ℕ) (fixed : List ℕ) → Told period most fixed (given vs) (taken_of (after texts) period most fixed)
  units_told = telling.told_after texts vs are

  -- ---- [5] again: asked of the docket after the texts

  pub forced_told : (q s fixed : List ℕ) (values : List ℤ) (stuck : List ℕ) → EntriesTold q s fixed values stuck (given vs) (forced_of (after texts) q s fixed values stuck)
  forced_told q s f v b = forcing.told_after q s f v b texts vs are

  -- ---- [7] again: asked of the docket after the texts

  pub draft_told : (q s fixed rows short : List ℕ) → DraftTold q s fixed rows short (given vs) (runs_of (after texts) q s fixed rows short)
  draft_told q s f r g = drafting.told_after q s f r g texts vs are

  -- ---- [3] Yesterday's last output

  -- Where a unit line is due, one with another count of values than fifteen, so one of fourteen, is 14 at its line
  pub fifteen_numbers : given vs ≡ none → (text : List ℕ) (before : List Line) (x : Line) (neg : Bool) (ns : List ℕ)
      → UnitLineDue text before x → Renders unit_form x neg ns → (length ns ≡ 15 → ⊥) → answer texts text ≡ refused 14 (2 + length before) 0 0
  fifteen_numbers = midnight.count_gets_14 texts vs are

  -- One of fifteen values, p0 above 10,000, is 13, whatever the others are
  pub p0_too_large : given vs ≡ none → (text : List ℕ) (before : List Line) (x : Line) (neg : Bool) (ns : List ℕ)
      → UnitLineDue text before x → Renders unit_form x neg ns → length ns ≡ 15 → 10000 < ns at 14 → answer texts text ≡ refused 13 (2 + length before) 0 0
  p0_too_large = midnight.p0_gets_13 texts vs are

  -- One in range is 15 exactly where pL is above pU, Hsc above Csc, or p0 not as Tini has it
  pub fifteen_exactly : given vs ≡ none → (text : List ℕ) (before : List Line) (g : Generator)
      → UnitLineDue text before (ended (unit_line g)) → InRange g → (answer texts text ≡ refused 15 (2 + length before) 0 0) ↔ (Ordered g → ⊥)
  fifteen_exactly = midnight.disorder_gets_15 texts vs are

  -- So one in range whose p0 is not as Tini has it
  pub p0_refused : given vs ≡ none → (text : List ℕ) (before : List Line) (g : Generator)
      → UnitLineDue text before (ended (unit_line g)) → InRange g → (Midnight g → ⊥) → answer texts text ≡ refused 15 (2 + length before) 0 0
  p0_refused = midnight.p0_gets_15 texts vs are

  module _ (P : Instance) (known : given vs ≡ some P) where
    -- So p0 is as it should be for every unit of the problem held
    pub p0_held : All Midnight P.units
    p0_held = midnight.p0_within P.units (midnight.formed texts vs are P known).units_good

    module _ (text : List ℕ) (short : Short text) (w : ℕ) (s : Schedule) (is : ScheduleText P text w s) where
      -- A schedule that is accepted keeps (11) and (12) in period 1, from p0, for each unit that was on before it and is on in it: as the source prints them, read
      -- at t = 1 (`midnight_is`, crates/source/proofs/Midnight.antt)
      pub ramps_kept : (x : AnswerValues) → Carries (answer texts text) x → Each FirstRamp P.units s
      ramps_kept = midnight.ramps_from_midnight texts vs are P known text short w s is

      -- 25 names period 1 and a unit exactly where that unit breaks them there, no lower unit does, and no rule with a lower number is broken
      pub period_1_named : (u : ℕ)
          → (answer texts text ≡ refused 25 0 (suc u) 1)
          ↔ (Of u (λ g r. OffRamp g g.on g.p0 (r at 0)) P.units s × ((c : Breach) → Lower c (in_period_1 u) → Broken P s c → ⊥))
      period_1_named = midnight.period_1_named texts vs are P known text short w s is

    -- A held bound is at most the cost of every schedule that meets the rules, those ramps among them; `none_exists` of Promises.antt says it of never
    pub bounds_below : (by : BoundBy) → (after texts).held.bound ≡ bound.Number by → (s : Schedule) → Meets P s → by.value ≤ℤ pos (cost P s)
    bounds_below = promises.never_undercut texts vs are P known

-- Of every docket value too: the problem by which it judges has each p0 as it should be
pub p0_anywhere : (d : Docket) → Long d → (P : Instance) → JudgesBy d (some P) → All Midnight P.units
p0_anywhere = midnight.p0_anywhere

-- Trees, costs and the printed rules do not read p0. Of two problems alike but for it, a text that begins with kind=tree is the same to both: accepted with
-- the same bound, splits and leaves, or refused by the same number at the same line; and every schedule has one cost, and keeps the rules as printed, their
-- ramps from period 2 on, in both or in neither
pub p0_unread : (P P' : Instance) → AlikeButMidnight P P'
    → (WellFormed P → WellFormed P' → (text : List ℕ) → Begins text kind_tree → (v : Verdict) → Is (some P) text v ↔ Is (some P') text v)
    × ((s : Schedule) → (cost P s ≡ cost P' s) × (MeetsPrinted P s ↔ MeetsPrinted P' s))
p0_unread P P' a = (midnight.tree_unread P P' a, λ s. (unread.cost_unread P P' a s, unread.printed_unread P P' a s))

-- ---- Witnesses: the specimens, with 60 and 0 at midnight for document 01's units and 0 for the others, have document 01's answers; and those of p0 and of counts theirs

pub specimens_stand : All (Answered lodge_of) specimens
specimens_stand = specimens_answered

-- ---- A witness: document 01's problem as it stands there, with fourteen numbers a unit. Its sixth line stands where a unit line is due

abbrev old_line : List ℕ
old_line = bytes "unit=100,10,0,20,80,2,2,3,30,30,50,90,1,5"

abbrev old_problem : List ℕ
old_problem = problem_of "unit=100,10,0,20,80,2,2,3,30,30,50,90,1,5" "unit=40,14,0,10,50,1,1,-2,50,50,20,60,0,0"

abbrev lines_before : List Line
lines_before = map ended (bytes "periods=2" ∷ bytes "units=2" ∷ bytes "demand=60,100" ∷ bytes "spare=10,10" ∷ [])

-- its first five lines are those of the same problem with fifteen numbers a unit
old_due : UnitLineDue old_problem lines_before (ended old_line)
unfolding problem_of lines_after digits digits_by
old_due = record {
  short = lit≤ tt;
  begins = refl;
  rest = map ended (bytes "unit=40,14,0,10,50,1,1,-2,50,50,20,60,0,0" ∷ bytes "end=problem" ∷ []);
  lines = refl;
  some_problem = example;
  beginning = record { more = map ended (map unit_line example.units ++ (end_problem ∷ [])); whole = refl; within = example_formed };
  place = unit 0 (lit< tt);
}

old_renders : Renders unit_form (ended old_line) false (100 ∷ 10 ∷ 0 ∷ 20 ∷ 80 ∷ 2 ∷ 2 ∷ 3 ∷ 30 ∷ 30 ∷ 50 ∷ 90 ∷ 1 ∷ 5 ∷ [])
unfolding digits digits_by
old_renders = record { some = lit< tt; sign = λ e. absurd (let z : ◌≡◌ {A = ℕ} 0 1 = cc in omega arith); line = refl }

pub old_refused : answer [] old_problem ≡ refused 14 6 0 0
old_refused = fifteen_numbers [] [] no_more refl old_problem lines_before (ended old_line) false _ old_due old_renders (λ e. omega (arith, e))

-- ---- A witness: the second count line of a text stands where a node is due, in the first tree of the same count. It is 37

lines_counted : List Line
lines_counted = map ended (bytes "writer=3" ∷ bytes "count=2,1" ∷ [])

twice_due : NodeLineDue example count_twice lines_counted (ended (fork_line (count 1 1))) (side (count 1 1) false root) 1
unfolding lines_counted tree_text node_lines digits digits_by Limits GoodLeaf HoldsAmong
twice_due = record {
  short = lit≤ tt;
  begins = refl;
  rest = map ended (bytes "short=2" ∷ bytes "short=2" ∷ bytes "short=2" ∷ bytes "end=tree" ∷ []);
  lines = refl;
  some_tree = record { writer = 3; tree = fork (count 1 1) (leaf (short 1)) (leaf (short 1)) };
  beginning = record {
    more = map ended (bytes "short=2" ∷ bytes "short=2" ∷ bytes "end=tree" ∷ []);
    whole = refl;
    within = (
      ((lit≤ tt, lit≤ tt), ((lit< tt, lit≤ tt, (lit≤ tt, tt)), lit≤ tt, lit< tt, lit< tt)),
      ((λ h. absurd (omega (arith, h))), (λ h. absurd (omega (arith, h)))),
    );
  };
  nodes_before = 1;
  after_writer = refl;
  place = in_first first_line;
}

pub twice_refused : answer (listed_problem ∷ []) count_twice ≡ refused 37 4 0 0
unfolding lines_counted
twice_refused =
    (thirty_seven_exactly (listed_problem ∷ []) (problem example ∷ []) (then is_listed_problem no_more) example refl count_twice lines_counted (side (count 1 1) false root) 1 1 1 twice_due
    (lit< tt) (lit≤ tt) (lit≤ tt)).1 (λ n. omega (arith, n.1))

-- ---- A witness: under document 01's problem, whose units have 80 and 50, `short` in period 2, where D + R is 110, takes both by number; where one unit at most may run
-- it takes the larger and is short; with the first unit off there it takes the other and is short, and with it on both again; a period 3 does not fit. Each end of each range is computed in
-- crates/docket/specs/TakingExamples.antt. Before any problem there is nothing to tell

abbrev told_then : ℕ → ℕ → List ℕ → Result Taken Unanswered
told_then = taken_of (after (listed_problem ∷ []))

told_there : (period most : ℕ) (fixed : List ℕ) → told_then period most fixed ≡ taken_under example period most fixed
told_there = telling.told_as (listed_problem ∷ []) (problem example ∷ []) (then is_listed_problem no_more) example refl

pub told_witnessed : (told_then 2 0 (0 ∷ 0 ∷ 0 ∷ 0 ∷ []) ≡ Ok (record { short = false; units = 2 }))
    × (told_then 2 2 (0 ∷ 0 ∷ 0 ∷ 0 ∷ []) ≡ Ok (record { short = true; units = 1 }))
    × (told_then 2 0 (0 ∷ 1 ∷ 0 ∷ 0 ∷ []) ≡ Ok (record { short = true; units = 1 }))
    × (told_then 2 0 (0 ∷ 2 ∷ 0 ∷ 0 ∷ []) ≡ Ok (record { short = false; units = 2 }))
    × (told_then 3 0 (0 ∷ 0 ∷ 0 ∷ 0 ∷ []) ≡ Err Unfit)
    × (taken_of (after []) 2 0 (0 ∷ 0 ∷ 0 ∷ 0 ∷ []) ≡ Err NoProblem)
unfolding taken_under taken_of in_turn took usable available largest falling sound marks_in mark_of
told_witnessed = (
  told_there 2 0 (0 ∷ 0 ∷ 0 ∷ 0 ∷ []),
  told_there 2 2 (0 ∷ 0 ∷ 0 ∷ 0 ∷ []),
  told_there 2 0 (0 ∷ 1 ∷ 0 ∷ 0 ∷ []),
  told_there 2 0 (0 ∷ 2 ∷ 0 ∷ 0 ∷ []),
  told_there 3 0 (0 ∷ 0 ∷ 0 ∷ 0 ∷ []),
  refl,
)

-- ---- A witness: under the same problem, at 10 and 14 with nothing fixed, unit 1 runs at 20 and 80 and unit 2 not at all, 40 and 20 short; with unit 1 off and then on again it is stuck; a price too
-- few does not fit; and before any problem there is nothing to tell

abbrev drafted_then : List ℕ → List ℕ → Drafted
drafted_then q f = runs_of (after (listed_problem ∷ [])) q (0 ∷ 0 ∷ []) f (7 ∷ 7 ∷ 7 ∷ 7 ∷ []) (7 ∷ 7 ∷ [])

drafted_there : (q f : List ℕ) → drafted_then q f ≡ draft_under example q (0 ∷ 0 ∷ []) f (7 ∷ 7 ∷ 7 ∷ 7 ∷ []) (7 ∷ 7 ∷ [])
drafted_there q f = drafting.told_as q (0 ∷ 0 ∷ []) f (7 ∷ 7 ∷ 7 ∷ 7 ∷ []) (7 ∷ 7 ∷ []) (listed_problem ∷ []) (problem example ∷ []) (then is_listed_problem no_more) example refl

pub draft_witnessed : (drafted_then (10 ∷ 14 ∷ []) (0 ∷ 0 ∷ 0 ∷ 0 ∷ []) ≡ record { answer = Ok (pos 1880); rows = 20 ∷ 80 ∷ 0 ∷ 0 ∷ []; short = 40 ∷ 20 ∷ [] })
    × (drafted_then (10 ∷ 14 ∷ []) (1 ∷ 2 ∷ 0 ∷ 0 ∷ []) ≡ unwritten (7 ∷ 7 ∷ 7 ∷ 7 ∷ []) (7 ∷ 7 ∷ []) (Err (runs.Stuck 1)))
    × (drafted_then (10 ∷ []) (0 ∷ 0 ∷ 0 ∷ 0 ∷ []) ≡ unwritten (7 ∷ 7 ∷ 7 ∷ 7 ∷ []) (7 ∷ 7 ∷ []) (Err (runs.Question Unfit)))
    × (runs_of (after []) (10 ∷ 14 ∷ []) (0 ∷ 0 ∷ []) (0 ∷ 0 ∷ 0 ∷ 0 ∷ []) (7 ∷ []) (7 ∷ []) ≡ unwritten (7 ∷ []) (7 ∷ []) (Err (runs.Question NoProblem)))
unfolding flatten runs_of draft_under drafted least_rows least_row shortfall output first_stuck is_stuck sound marks_in mark_of leaf_value units_least unit_least value revenue requirement rows_of row_cost
draft_witnessed = (
  drafted_there (10 ∷ 14 ∷ []) (0 ∷ 0 ∷ 0 ∷ 0 ∷ []),
  drafted_there (10 ∷ 14 ∷ []) (1 ∷ 2 ∷ 0 ∷ 0 ∷ []),
  drafted_there (10 ∷ []) (0 ∷ 0 ∷ 0 ∷ 0 ∷ []),
  refl,
)

-- ---- A witness: under the same problem, at 10 and 14 with nothing fixed, unit 1 costs 5 with either period forced off and -120 with it forced on; unit 2 costs 0 with either forced off, 140 with
-- period 1 forced on and 100 with period 2. With unit 2 fixed on in period 2 it costs 100 with period 1 forced off, 180 with it forced on and 100 with period 2 forced on, and says stuck with period
-- 2 forced off; a price too few does not fit; and before any problem there is nothing to tell

abbrev lent_values : List ℤ
lent_values = pos 7 ∷ pos 7 ∷ pos 7 ∷ pos 7 ∷ pos 7 ∷ pos 7 ∷ pos 7 ∷ pos 7 ∷ []

abbrev lent_bytes : List ℕ
lent_bytes = 7 ∷ 7 ∷ 7 ∷ 7 ∷ 7 ∷ 7 ∷ 7 ∷ 7 ∷ []

abbrev forced_then : List ℕ → List ℕ → entries.Told
forced_then q f = forced_of (after (listed_problem ∷ [])) q (0 ∷ 0 ∷ []) f lent_values lent_bytes

forced_there : (q f : List ℕ) → forced_then q f ≡ told_under example q (0 ∷ 0 ∷ []) f lent_values lent_bytes
forced_there q f = forcing.told_as q (0 ∷ 0 ∷ []) f lent_values lent_bytes (listed_problem ∷ []) (problem example ∷ []) (then is_listed_problem no_more) example refl

pub forced_witnessed : (forced_then (10 ∷ 14 ∷ []) (0 ∷ 0 ∷ 0 ∷ 0 ∷ []) ≡ record {
  answer = Ok tt;
  values = pos 5 ∷ neg_ℤ (pos 120) ∷ pos 5 ∷ neg_ℤ (pos 120) ∷ pos 0 ∷ pos 140 ∷ pos 0 ∷ pos 100 ∷ [];
  stuck = 0 ∷ 0 ∷ 0 ∷ 0 ∷ 0 ∷ 0 ∷ 0 ∷ 0 ∷ [];
})
    × (forced_then (10 ∷ 14 ∷ []) (0 ∷ 0 ∷ 0 ∷ 2 ∷ []) ≡ record {
      answer = Ok tt;
      values = pos 5 ∷ neg_ℤ (pos 120) ∷ pos 5 ∷ neg_ℤ (pos 120) ∷ pos 100 ∷ pos 180 ∷ pos 0 ∷ pos 100 ∷ [];
      stuck = 0 ∷ 0 ∷ 0 ∷ 0 ∷ 0 ∷ 0 ∷ 1 ∷ 0 ∷ [];
    })
    × (forced_then (10 ∷ []) (0 ∷ 0 ∷ 0 ∷ 0 ∷ []) ≡ untold lent_values lent_bytes (Err Unfit))
    × (forced_of (after []) (10 ∷ 14 ∷ []) (0 ∷ 0 ∷ []) (0 ∷ 0 ∷ 0 ∷ 0 ∷ []) lent_values lent_bytes ≡ untold lent_values lent_bytes (Err NoProblem))
unfolding forced_of told_under forced_tables forced_table is_stuck sound marks_in mark_of unit_least value revenue rows_of row_cost
forced_witnessed = (
  forced_there (10 ∷ 14 ∷ []) (0 ∷ 0 ∷ 0 ∷ 0 ∷ []),
  forced_there (10 ∷ 14 ∷ []) (0 ∷ 0 ∷ 0 ∷ 2 ∷ []),
  forced_there (10 ∷ []) (0 ∷ 0 ∷ 0 ∷ 0 ∷ []),
  refl,
)
