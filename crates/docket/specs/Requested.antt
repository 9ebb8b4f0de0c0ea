-- The words of the page of what document 02 asks beyond demands 1 to 3.
use Rattle.std.specs.Prelude.{◌≡◌, Bool, true, false, not, ◌↔◌, Result, Ok, Err, ℕ, zero, suc, ◌+◌, ◌*◌, ◌-◌, ◌<◌, T, ℤ, pos, ◌+ℤ◌, length, get_or, None, Some}
use mathlib.Core.List.{List, [], ◌∷◌, ◌++◌, map, flatten}
use Rattle.std.proofs.Math.Option.{Option, none, some}
use Rattle.model.specs.declared.generator.Generator.{Generator}
use Rattle.model.specs.Instance.{Instance, Schedule, ◌at◌}
use Rattle.model.specs.Ranges.{Between}
use Rattle.model.specs.Held.{blank_generator}
use Rattle.model.specs.Breach.{Breach}
use Rattle.model.specs.Above.{Mark, free, fixed, Marks, rest, Above, root}
use Rattle.model.specs.Leaf.{range, available, stuck_at, requirement, leaf_value}
use Rattle.model.specs.Forced.{forced_least, value_number, stuck_number}
use Rattle.model.specs.Runs.{Attains, Precedes, least_rows, rows_value, shortfalls}
use Rattle.model.specs.Tree as tree
use Rattle.model.specs.Tree.{Leaf}
use Rattle.model.specs.Turns.{in_turn, Fewest}
use Rattle.walk.specs.Marks.{mark_of, most_of}
use Rattle.least.specs.UnitLeasts.{Least}
use Rattle.leaves.specs.declared.short.Taken.{Taken}
use Rattle.runs.specs.declared.drafting.NoRuns.TheVariants as runs
use Rattle.runs.specs.declared.question.Unanswered.{Unanswered}
use Rattle.runs.specs.declared.question.Unanswered.TheVariants.{NoProblem, Unfit}
use Rattle.runs.specs.Drafts as drafts
use Rattle.runs.specs.Drafts.{Drafted, unwritten, marks_asked}
use Rattle.forced.specs.Answers as entries
use Rattle.forced.specs.Answers.{untold}
use Rattle.text.specs.Lines.{Line, later, lines_of, kind_problem, kind_tree}
use Rattle.text.specs.LineRefused.{Beginning}
use Rattle.problem.specs.Units.{unit_form}
use Rattle.problem.specs.Rendering.{lines_after}
use Rattle.problem.specs.Refusals.{FormAt, InLimits}
use Rattle.tree.specs.Places.{Part, node_at, part_at, LineAt}
use Rattle.tree.specs.Refusals.{WrittenTree, written_lines, HoldsSoFar}
use Rattle.docket.specs.Texts.{Short, Begins}
use Rattle.docket.specs.Taking.{FitQuestion, asked}

-- ---- [1] Splitting on how many units are on

-- the line x of a tree's text stands where a node is due at depth d with A above it: the lines between the first and it begin the text of some writer and some
-- tree within the limits, whose leaves, as far as they end there, meet their rules
pub record NodeLineDue (P : Instance) (text : List ℕ) (before : List Line) (x : Line) (A : Above) (d : ℕ) : Type 0 where
  pub short : Short text
  pub begins : Begins text kind_tree
  pub rest : List Line
  pub lines : later (lines_of text) ≡ before ++ (x ∷ rest)
  pub some_tree : WrittenTree
  pub beginning : Beginning written_lines (HoldsSoFar P) before some_tree
  -- after the writer's line, which of the tree's lines
  pub nodes_before : ℕ
  pub after_writer : length before ≡ suc nodes_before
  pub place : LineAt root 0 some_tree.tree nodes_before (node_at A d)

-- ---- [2] The capacity sum may stop when enough

-- in period t, counted from 0, with A above: whether what `short` sums is below D + R, and the fewest, in the order in which they are taken, that reach it, or all
pub record TakenThere (P : Instance) (A : Above) (t : ℕ) (u : Taken) : Type 0 where
  pub short : (u.short ≡ true) ↔ (available P A t < P.demand at t + P.spare at t)
  pub units : Fewest (in_turn P A t) (P.demand at t + P.spare at t) u.units

-- what is told where this problem, or none, is the one judged by: that there is none; that the question does not fit it; or what was taken, under what the
-- question names
pub data Told (period most : ℕ) (fixed : List ℕ) : Option Instance → Result Taken Unanswered → Type 0 where
  no_problem : Told period most fixed none (Err NoProblem)
  unfit : {P : Instance} → (FitQuestion P period most fixed → ⊥) → Told period most fixed (some P) (Err Unfit)
  fit : {P : Instance} {u : Taken} → FitQuestion P period most fixed → TakenThere P (asked P (period - 1) most fixed) (period - 1) u → Told period most fixed (some P) (Ok u)

-- A has in period t the statuses and the upper count that a question names
pub record AsAsked (P : Instance) (t most : ℕ) (fixed : List ℕ) (A : Above) : Type 0 where
  pub statuses : (u : ℕ) → u < length P.units → A.marks u t ≡ mark_of (fixed at (u * P.periods + t))
  pub upper : A.most t ≡ most_of most

-- ---- [3] Yesterday's last output

-- p0 in its range, and as Tini has it: an output that (4) allows after periods on, 0 after periods off
pub record Midnight (g : Generator) : Type 0 where
  pub in_range : Between 0 g.p0 10000
  pub on_before : T g.on → Between g.pL g.p0 g.pU
  pub off_before : T (not g.on) → g.p0 ≡ 0

-- 25 in period 1, of unit u counted from 0
abbrev pub in_period_1 : ℕ → Breach
in_period_1 u = record { number = 25; unit = suc u; period = 1 }

-- the line x of a problem's text stands where a unit line is due: the lines between the first and it begin the text of some well-formed problem, in which a unit
-- line comes next
pub record UnitLineDue (text : List ℕ) (before : List Line) (x : Line) : Type 0 where
  pub short : Short text
  pub begins : Begins text kind_problem
  pub rest : List Line
  pub lines : later (lines_of text) ≡ before ++ (x ∷ rest)
  pub some_problem : Instance
  pub beginning : Beginning lines_after InLimits before some_problem
  pub place : FormAt some_problem (length before) unit_form

-- ---- [6] Prices on the ramps

-- the line x of a tree's text stands where a later line of a leaf is due, with A above the leaf, after a part of it: the lines between the first and it begin the text
-- of some writer and some tree within the limits, whose leaves, as far as they end there, meet their rules
pub record PartLineDue (P : Instance) (text : List ℕ) (before : List Line) (x : Line) (A : Above) (p : Part) : Type 0 where
  pub short : Short text
  pub begins : Begins text kind_tree
  pub rest : List Line
  pub lines : later (lines_of text) ≡ before ++ (x ∷ rest)
  pub some_tree : WrittenTree
  pub beginning : Beginning written_lines (HoldsSoFar P) before some_tree
  pub nodes_before : ℕ
  pub after_writer : length before ≡ suc nodes_before
  pub place : LineAt root 0 some_tree.tree nodes_before (part_at A p)

-- ---- [5] All forced statuses of a unit together

-- what the single walk gives, as an entry
abbrev pub as_entry : Least → Option ℤ
as_entry None = none
as_entry (Some z) = some z

-- where the entry of unit u stands, with period t forced off or on, among those of units with n periods: unit by unit, period by period, all counted from 0, off forced before on forced
abbrev pub place : ℕ → ℕ → ℕ → Bool → ℕ
place n u t false = u * (2 * n) + 2 * t
place n u t true = u * (2 * n) + 2 * t + 1

-- the entries of all units, each at its place: what the unit answers with that status forced, by its value, 0 where it says stuck, and by a number that is 1 there and else 0
pub record Entries (P : Instance) (m : Marks) (q s : ℕ → ℕ) (values : List ℤ) (stuck : List ℕ) : Type 0 where
  pub values_long : length values ≡ 2 * (length P.units * P.periods)
  pub stuck_long : length stuck ≡ 2 * (length P.units * P.periods)
  pub each : (u : ℕ) → u < length P.units → (t : ℕ) → t < P.periods → (d : Bool)
      → let e = forced_least P.periods q s (get_or P.units u blank_generator) (m u) t d in
      (get_or values (place P.periods u t d) (pos 0) ≡ value_number e) × (stuck at place P.periods u t d ≡ stuck_number e)

-- what is told where this problem, or none, is the one judged by, and what the slices for the values and for the bytes then hold: that there is none; that the question does not
-- fit it; or the entries of all units. In all but the last the slices are as they were
pub data EntriesTold (q s fixed : List ℕ) (values : List ℤ) (stuck : List ℕ) : Option Instance → entries.Told → Type 0 where
  no_problem : EntriesTold q s fixed values stuck none (untold values stuck (Err NoProblem))
  unfit : {P : Instance} → (entries.FitQuestion P q s fixed (length values) (length stuck) → ⊥) → EntriesTold q s fixed values stuck (some P) (untold values stuck (Err Unfit))
  found : {P : Instance} {x : List ℤ} {y : List ℕ} → entries.FitQuestion P q s fixed (length values) (length stuck) → Entries P (marks_asked P fixed) (λ t. q at t) (λ t. s at t) x y
      → EntriesTold q s fixed values stuck (some P) (record { answer = Ok tt; values = x; stuck = y })

-- ---- [7] The run behind a minimum

-- unit u, counted from 0, is stuck, and none before it
pub record FirstStuck (P : Instance) (m : Marks) (u : ℕ) : Type 0 where
  pub inside : u < length P.units
  pub stuck : T (stuck_at P.periods P.units m u)
  pub before : (v : ℕ) → v < u → T (stuck_at P.periods P.units m v) → ⊥

-- a unit's run: one of the rows over which its least value is taken, it has that value, and it precedes every other that has it
pub record FirstRun (n : ℕ) (q s : ℕ → ℕ) (g : Generator) (m : ℕ → Mark) (r : List ℕ) : Type 0 where
  pub attains : Attains n q s g m r
  pub precedes : (r' : List ℕ) → Attains n q s g m r' → Precedes r r'

-- the runs of a price leaf, one for each unit; their values and what the periods require are the leaf's value
pub record LeafRuns (P : Instance) (m : Marks) (q s : ℕ → ℕ) (runs : Schedule) : Type 0 where
  pub long : length runs ≡ length P.units
  pub each : (u : ℕ) → u < length P.units → FirstRun P.periods q s (get_or P.units u blank_generator) (m u) (get_or runs u [])
  pub value : rows_value P.periods q s P.units runs +ℤ pos (requirement P q s) ≡ leaf_value P m q s

-- what is told where this problem, or none, is the one judged by, and what the slices for the runs and the shortfalls then hold: that there is none; that the question does
-- not fit it; the first stuck unit, from 1; or the leaf's value, its runs one after the other, and for each period how far they fall short of D. In all but the last the slices
-- are as they were
pub data DraftTold (q s fixed rows short : List ℕ) : Option Instance → Drafted → Type 0 where
  no_problem : DraftTold q s fixed rows short none (unwritten rows short (Err (runs.Question NoProblem)))
  unfit : {P : Instance} → (drafts.FitQuestion P q s fixed rows short → ⊥) → DraftTold q s fixed rows short (some P) (unwritten rows short (Err (runs.Question Unfit)))
  stuck : {P : Instance} {u : ℕ} → drafts.FitQuestion P q s fixed rows short → FirstStuck P (marks_asked P fixed) u → DraftTold q s fixed rows short (some P) (unwritten rows short (Err (runs.Stuck (suc u))))
  found : {P : Instance} {rs : Schedule} → drafts.FitQuestion P q s fixed rows short → LeafRuns P (marks_asked P fixed) (λ t. q at t) (λ t. s at t) rs
      → DraftTold q s fixed rows short (some P) (record { answer = Ok (leaf_value P (marks_asked P fixed) (λ t. q at t) (λ t. s at t)); rows = flatten rs; short = shortfalls P rs })

-- what a leaf gives, with A above it: a price leaf the runs of all units; no other leaf gives any
abbrev pub leaf_runs : Instance → Above → Leaf → Option Schedule
leaf_runs P A (tree.short t) = none
leaf_runs P A (tree.crowd t) = none
leaf_runs P A (tree.stuck U) = none
leaf_runs P A (tree.price q s) = some (least_rows P.periods (λ t. q at t) (λ t. s at t) P.units A.marks)
leaf_runs P A (tree.ramp q s l) = none

-- a status as a byte: 0 free, 1 fixed off, 2 fixed on
abbrev pub status_byte : Mark → ℕ
status_byte free = 0
status_byte (fixed false) = 1
status_byte (fixed true) = 2

-- the statuses of I units in T periods, unit u's from u·T on
abbrev pub status_bytes : ℕ → ℕ → Marks → List ℕ
status_bytes zero T m = []
status_bytes (suc I) T m = map (λ t. status_byte (m 0 t)) (range 0 T) ++ status_bytes I T (rest m)
