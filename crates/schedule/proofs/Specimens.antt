-- Document 01, Specimens: schedules' texts on its problem, answered by computing.
use Prim.Native.Nat.{ℕ}
use mathlib.Core.Path.{◌≡◌, refl}
use mathlib.Core.Bool.{true, false}
use mathlib.Core.List.{List, [], ◌∷◌, ◌++◌, map}
use lib.Dec.{lit≤}
use lib.ListN.{replicate}
use Rattle.decimal.specs.Decimal.{digits, digits_by}
use Rattle.model.specs.Instance.{Instance, Schedule}
use Rattle.model.specs.Examples as units
use Rattle.model.specs.Examples.{line, example, unit1, unit2, rows, periods_of}
use Rattle.model.specs.Ranges.{WellFormed, costs_in_range, outputs_in_range, times_in_range, in_range, midnight_ordered, ordered}
use Rattle.model.proofs.RangeTests.{in_range_is, ordered_is}
use Rattle.model.specs.Rules.{output, capacity}
use Rattle.model.specs.Cost.{cost, row_cost}
use Rattle.model.specs.Breach.{first_breach}
use Rattle.refusal.specs.Refusals.{refusal_of, carries_line, carries_unit, carries_period, line_refusal}
use Rattle.text.specs.Lines.{kind_of, kind_schedule, end_schedule}
use Rattle.text.specs.Forms.{malformed, wrong_count, outside_range}
use Rattle.text.specs.Rendering.{plain_line, text_of}
use Rattle.text.specs.Writer.{writer_key}
use Rattle.text.specs.Course.{judged_from}
use Rattle.text.specs.Strings.{lines}
use Rattle.schedule.specs.Rendering.{run_key, render}
use Rattle.schedule.specs.Course.{judge, schedule_judged}
use Rattle.schedule.specs.ReadAnswers.{IsSchedule, Outcome, refused_by, accepted_as, schedule_outcome}
use Rattle.schedule.specs.Acceptance.{rule_refusal, Accepts, BreaksFirst}
use Rattle.schedule.proofs.Wholes.{render_is_schedule}
use Rattle.schedule.proofs.Outcomes.{accepted_is, refused_rule_is}

-- the text of document 01's schedule, byte by byte
abbrev pub text : List ℕ
text =
    107 ∷ 105 ∷ 110 ∷ 100 ∷ 61 ∷ 115 ∷ 99 ∷ 104 ∷ 101 ∷ 100 ∷ 117 ∷ 108 ∷ 101 ∷ 10 ∷
    119 ∷ 114 ∷ 105 ∷ 116 ∷ 101 ∷ 114 ∷ 61 ∷ 55 ∷ 10 ∷
    114 ∷ 117 ∷ 110 ∷ 61 ∷ 54 ∷ 48 ∷ 44 ∷ 56 ∷ 48 ∷ 10 ∷
    114 ∷ 117 ∷ 110 ∷ 61 ∷ 48 ∷ 44 ∷ 50 ∷ 48 ∷ 10 ∷
    101 ∷ 110 ∷ 100 ∷ 61 ∷ 115 ∷ 99 ∷ 104 ∷ 101 ∷ 100 ∷ 117 ∷ 108 ∷ 101 ∷ 10 ∷ []

pub rendered : render 7 (rows (60 ∷ 80 ∷ []) (0 ∷ 20 ∷ [])) ≡ text
unfolding render digits digits_by
rendered = refl

-- ---- accepted, and refused by a rule

pub specimens : map (schedule_outcome example) (
    text ∷ render 65535 (rows (50 ∷ 80 ∷ []) (10 ∷ 20 ∷ [])) ∷ render 1 (rows (49 ∷ 80 ∷ []) (11 ∷ 20 ∷ [])) ∷ render 1 (rows (59 ∷ 80 ∷ []) (0 ∷ 20 ∷ []))
    ∷ render 1 (rows (60 ∷ 80 ∷ []) (0 ∷ 9 ∷ [])) ∷ [])
    ≡ accepted_as 7 1980 (rows (60 ∷ 80 ∷ []) (0 ∷ 20 ∷ [])) ∷ accepted_as 65535 2060 (rows (50 ∷ 80 ∷ []) (10 ∷ 20 ∷ []))
    ∷ refused_by (rule_refusal (record { number = 25; unit = 1; period = 2 })) ∷ refused_by (rule_refusal (record { number = 22; unit = 0; period = 1 }))
    ∷ refused_by (rule_refusal (record { number = 21; unit = 2; period = 2 })) ∷ []
unfolding schedule_outcome schedule_judged judged_from judge malformed wrong_count outside_range first_breach output capacity cost row_cost refusal_of carries_line carries_unit carries_period render digits digits_by
specimens = refl

-- document 02, [3], from 60 at midnight: a fall of 30, and one of 31
pub from_midnight : map (schedule_outcome example) (
    render 1 (rows (30 ∷ 60 ∷ []) (30 ∷ 40 ∷ [])) ∷ render 1 (rows (29 ∷ 59 ∷ []) (31 ∷ 41 ∷ [])) ∷ [])
    ≡ accepted_as 1 2220 (rows (30 ∷ 60 ∷ []) (30 ∷ 40 ∷ [])) ∷ refused_by (rule_refusal (record { number = 25; unit = 1; period = 1 })) ∷ []
unfolding schedule_outcome schedule_judged judged_from judge malformed wrong_count outside_range first_breach output capacity cost row_cost refusal_of carries_line carries_unit carries_period render digits digits_by
from_midnight = refl

-- ---- refused at a line

-- a text of the kind with these lines after its first
abbrev with_lines : List (List ℕ) → List ℕ
with_lines bs = text_of (kind_schedule ∷ bs)

abbrev writer : ℕ → List ℕ
writer w = plain_line writer_key (w ∷ [])

abbrev run : List ℕ → List ℕ
run r = plain_line run_key r

-- nothing after the first line; two writers; one output; a run line too few, one too many; no end line; byte 10 after the end line; the end line without
-- its byte 10
pub damaged : map (schedule_outcome example) (
    with_lines [] ∷ with_lines (plain_line writer_key (7 ∷ 7 ∷ []) ∷ []) ∷ with_lines (writer 7 ∷ run (60 ∷ []) ∷ [])
    ∷ with_lines (writer 7 ∷ run (60 ∷ 80 ∷ []) ∷ end_schedule ∷ [])
    ∷ with_lines (writer 7 ∷ run (60 ∷ 80 ∷ []) ∷ run (0 ∷ 20 ∷ []) ∷ run (0 ∷ 20 ∷ []) ∷ end_schedule ∷ [])
    ∷ with_lines (writer 7 ∷ run (60 ∷ 80 ∷ []) ∷ run (0 ∷ 20 ∷ []) ∷ [])
    ∷ (text ++ (10 ∷ [])) ∷ (with_lines (writer 7 ∷ run (60 ∷ 80 ∷ []) ∷ run (0 ∷ 20 ∷ []) ∷ []) ++ end_schedule) ∷ [])
    ≡ map refused_by (
    line_refusal 12 2 ∷ line_refusal 14 2 ∷ line_refusal 14 3 ∷ line_refusal 12 4 ∷ line_refusal 12 5 ∷ line_refusal 12 5 ∷ line_refusal 12 6
    ∷ line_refusal 12 5 ∷ [])
unfolding schedule_outcome schedule_judged judged_from judge malformed wrong_count outside_range first_breach output capacity cost row_cost refusal_of carries_line carries_unit carries_period render digits digits_by
damaged = refl

-- the ends of the ranges, each text ending there: where the line is good, the next one is missing, 12. Writers 1, 65,535, 0 and 65,536
pub writer_ends : map (schedule_outcome example) (
    with_lines (writer 1 ∷ []) ∷ with_lines (writer 65535 ∷ []) ∷ with_lines (writer 0 ∷ []) ∷ with_lines (writer 65536 ∷ []) ∷ [])
    ≡ map refused_by (line_refusal 12 3 ∷ line_refusal 12 3 ∷ line_refusal 13 2 ∷ line_refusal 13 2 ∷ [])
unfolding schedule_outcome schedule_judged judged_from judge malformed wrong_count outside_range refusal_of carries_line carries_unit carries_period digits digits_by
writer_ends = refl

-- outputs 0 and 10,000, then 10,001
pub output_ends : map (schedule_outcome example) (with_lines (writer 7 ∷ run (0 ∷ 10000 ∷ []) ∷ []) ∷ with_lines (writer 7 ∷ run (0 ∷ 10001 ∷ []) ∷ []) ∷ [])
    ≡ map refused_by (line_refusal 12 4 ∷ line_refusal 13 3 ∷ [])
unfolding schedule_outcome schedule_judged judged_from judge malformed wrong_count outside_range refusal_of carries_line carries_unit carries_period digits digits_by
output_ends = refl

-- ---- the order of the numbers: each text breaks two, and the first of them refuses it

-- on a line, 12 and 14, 12 and 13, 14 and 13: the writer line and a run line; and an earlier line with a later number before one that is not the line due
pub line_order : map (λ ls. schedule_outcome example (lines ("kind=schedule" ∷ ls))) (
    ("writer=01,1" ∷ []) ∷ ("writer=065536" ∷ []) ∷ ("writer=0,1" ∷ [])
    ∷ ("writer=1" ∷ "run=01" ∷ []) ∷ ("writer=1" ∷ "run=01,10001" ∷ []) ∷ ("writer=1" ∷ "run=10001" ∷ [])
    ∷ ("writer=1,1" ∷ "end=schedule" ∷ []) ∷ ("writer=0" ∷ "end=schedule" ∷ []) ∷ ("writer=1" ∷ "run=0,10001" ∷ "writer=1" ∷ []) ∷ [])
    ≡ map refused_by (
    line_refusal 12 2 ∷ line_refusal 12 2 ∷ line_refusal 14 2 ∷ line_refusal 12 3 ∷ line_refusal 12 3 ∷ line_refusal 14 3
    ∷ line_refusal 14 2 ∷ line_refusal 13 2 ∷ line_refusal 13 3 ∷ [])
unfolding schedule_outcome schedule_judged judged_from judge malformed wrong_count outside_range refusal_of carries_line carries_unit carries_period digits digits_by
line_order = refl

-- Three periods that ask for D each and these R. Unit 1 gives 2 to 9 and was on, at 5; unit 2 gives 2 to 8 and was off for one period. Both ramp by 3, and TU and TD are 2
abbrev asking : ℕ → List ℕ → Instance
asking D R = record {
  periods = 3;
  demand = replicate 3 D;
  spare = R;
  units = line 0 0 0 2 9 2 2 true 5 3 3 0 0 0 0 5 ∷ line 0 0 0 2 8 2 2 false 1 3 3 0 0 0 0 0 ∷ [];
}

abbrev broken : ℕ → ℕ → ℕ → Outcome
broken n u t = refused_by (rule_refusal (record { number = n; unit = u; period = t }))

-- run=10,10,10 and run=2,2,2 break 21 to 25 where 100 and 100 are asked for; the second line with a leading zero, two outputs, or 10,001; no end line; and one more
-- line after it: the line comes before every rule
pub lines_before_rules : map (λ ls. schedule_outcome (asking 100 (replicate 3 100)) (lines ("kind=schedule" ∷ "writer=1" ∷ "run=10,10,10" ∷ ls))) (
    ("run=2,2,2" ∷ "end=schedule" ∷ []) ∷ ("run=02,2,2" ∷ "end=schedule" ∷ []) ∷ ("run=2,2" ∷ "end=schedule" ∷ []) ∷ ("run=2,2,10001" ∷ "end=schedule" ∷ [])
    ∷ ("run=2,2,2" ∷ []) ∷ ("run=2,2,2" ∷ "end=schedule" ∷ "end=schedule" ∷ []) ∷ [])
    ≡ broken 21 1 1 ∷ map refused_by (line_refusal 12 4 ∷ line_refusal 14 4 ∷ line_refusal 13 4 ∷ line_refusal 12 5 ∷ line_refusal 12 6 ∷ [])
unfolding schedule_outcome schedule_judged judged_from judge malformed wrong_count outside_range first_breach output capacity cost row_cost refusal_of carries_line carries_unit carries_period render digits digits_by
lines_before_rules = refl

-- D is 6. Of 21 with 22, 23, 24, 25, of 22 with 23, 24, 25, of 23 with 24, 25, and of 24 with 25, the first is broken in period 3 and the other in period 1
pub rule_order : map (λ (x : List ℕ × Schedule). schedule_outcome (asking 6 x.0) (render 1 x.1)) (
    (replicate 3 3, rows (5 ∷ 8 ∷ 10 ∷ []) (0 ∷ 0 ∷ 0 ∷ [])) ∷ (4 ∷ 3 ∷ 3 ∷ [], rows (6 ∷ 8 ∷ 10 ∷ []) (0 ∷ 0 ∷ 0 ∷ []))
    ∷ (replicate 3 3, rows (6 ∷ 8 ∷ 10 ∷ []) (2 ∷ 2 ∷ 2 ∷ [])) ∷ (replicate 3 3, rows (9 ∷ 9 ∷ 10 ∷ []) (0 ∷ 0 ∷ 0 ∷ []))
    ∷ (4 ∷ 3 ∷ 3 ∷ [], rows (6 ∷ 6 ∷ 5 ∷ []) (0 ∷ 0 ∷ 0 ∷ [])) ∷ (replicate 3 3, rows (6 ∷ 6 ∷ 3 ∷ []) (2 ∷ 2 ∷ 2 ∷ []))
    ∷ (replicate 3 3, rows (9 ∷ 6 ∷ 5 ∷ []) (0 ∷ 0 ∷ 0 ∷ [])) ∷ (3 ∷ 3 ∷ 12 ∷ [], rows (6 ∷ 6 ∷ 6 ∷ []) (2 ∷ 2 ∷ 2 ∷ []))
    ∷ (3 ∷ 3 ∷ 4 ∷ [], rows (9 ∷ 8 ∷ 6 ∷ []) (0 ∷ 0 ∷ 0 ∷ [])) ∷ (replicate 3 3, rows (9 ∷ 8 ∷ 6 ∷ []) (0 ∷ 2 ∷ 0 ∷ [])) ∷ [])
    ≡ broken 21 1 3 ∷ broken 21 1 3 ∷ broken 21 1 3 ∷ broken 21 1 3 ∷ broken 22 0 3 ∷ broken 22 0 3 ∷ broken 22 0 3 ∷ broken 23 0 3 ∷ broken 23 0 3
    ∷ broken 24 2 3 ∷ []
unfolding schedule_outcome schedule_judged judged_from judge malformed wrong_count outside_range first_breach output capacity cost row_cost refusal_of carries_line carries_unit carries_period render digits digits_by
rule_order = refl

-- One number twice. 21 by unit 2 in period 2 and unit 1 in period 3, and by both in period 2; 22 and 23 in periods 2 and 3; 24 by unit 2 in period 1 and unit 1 in
-- period 3, by both in period 3, and by unit 2 in every period; 25 by both in period 3
pub place_order : map (λ (x : List ℕ × Schedule). schedule_outcome (asking 6 x.0) (render 1 x.1)) (
    (replicate 3 3, rows (6 ∷ 8 ∷ 10 ∷ []) (0 ∷ 1 ∷ 2 ∷ [])) ∷ (replicate 3 3, rows (8 ∷ 10 ∷ 9 ∷ []) (0 ∷ 1 ∷ 2 ∷ []))
    ∷ (replicate 3 3, rows (6 ∷ 5 ∷ 5 ∷ []) (0 ∷ 0 ∷ 0 ∷ [])) ∷ (3 ∷ 4 ∷ 4 ∷ [], rows (6 ∷ 6 ∷ 6 ∷ []) (0 ∷ 0 ∷ 0 ∷ []))
    ∷ (replicate 3 0, rows (6 ∷ 0 ∷ 6 ∷ []) (2 ∷ 8 ∷ 8 ∷ [])) ∷ (replicate 3 0, rows (6 ∷ 0 ∷ 6 ∷ []) (0 ∷ 8 ∷ 0 ∷ []))
    ∷ (replicate 3 3, rows (6 ∷ 6 ∷ 6 ∷ []) (2 ∷ 0 ∷ 2 ∷ [])) ∷ (replicate 3 3, rows (6 ∷ 6 ∷ 2 ∷ []) (0 ∷ 2 ∷ 8 ∷ [])) ∷ [])
    ≡ broken 21 2 2 ∷ broken 21 1 2 ∷ broken 22 0 2 ∷ broken 23 0 2 ∷ broken 24 2 1 ∷ broken 24 1 3 ∷ broken 24 2 1 ∷ broken 25 1 3 ∷ []
unfolding schedule_outcome schedule_judged judged_from judge malformed wrong_count outside_range first_breach output capacity cost row_cost refusal_of carries_line carries_unit carries_period render digits digits_by
place_order = refl

-- document 02, [3]: 25 by unit 2 in period 1, from 80 at midnight to 49, and by unit 1 in period 2
pub ramp_place : schedule_outcome (periods_of 2 (units.from_midnight true 30 ∷ units.from_midnight true 80 ∷ [])) (render 1 (rows (20 ∷ 51 ∷ []) (49 ∷ 49 ∷ []))) ≡ broken 25 2 1
unfolding schedule_outcome schedule_judged judged_from judge malformed wrong_count outside_range first_breach output capacity cost row_cost refusal_of carries_line carries_unit carries_period render digits digits_by
ramp_place = refl

-- ---- the premises of the laws can be met

pub example_good : WellFormed example
unfolding in_range costs_in_range outputs_in_range times_in_range ordered midnight_ordered
example_good = record {
  periods_in = (lit≤ tt, lit≤ tt);
  units_in = (lit≤ tt, lit≤ tt);
  demand_long = refl;
  demand_in = ((lit≤ tt, lit≤ tt), ((lit≤ tt, lit≤ tt), tt));
  spare_long = refl;
  spare_in = ((lit≤ tt, lit≤ tt), ((lit≤ tt, lit≤ tt), tt));
  units_good = (
    record { in_range = (in_range_is unit1).0 tt; ordered = (ordered_is unit1).0 tt },
    (record { in_range = (in_range_is unit2).0 tt; ordered = (ordered_is unit2).0 tt }, tt),
  );
}

pub text_kind : IsSchedule text
unfolding kind_of
text_kind = refl

-- document 01's schedule renders rows that meet the rules, and its text is accepted for that
pub text_accepts : Accepts example text 7 1980 (rows (60 ∷ 80 ∷ []) (0 ∷ 20 ∷ []))
text_accepts = (accepted_is example example_good text text_kind 7 1980 (rows (60 ∷ 80 ∷ []) (0 ∷ 20 ∷ []))).0 (first specimens)
  where
    first : {x y : Outcome} {xs ys : List Outcome} → x ∷ xs ≡ y ∷ ys → x ≡ y
    first e = cc

-- a rise of 31 breaks 25 first
pub steep : BreaksFirst example (render 1 (rows (49 ∷ 80 ∷ []) (11 ∷ 20 ∷ []))) (record { number = 25; unit = 1; period = 2 })
steep =
    (refused_rule_is example example_good _ (render_is_schedule 1 (rows (49 ∷ 80 ∷ []) (11 ∷ 20 ∷ []))) (record { number = 25; unit = 1; period = 2 })).0 (third specimens)
  where
    third : {a b c x y z : Outcome} {xs ys : List Outcome} → a ∷ b ∷ c ∷ xs ≡ x ∷ y ∷ z ∷ ys → c ≡ z
    third e = cc
