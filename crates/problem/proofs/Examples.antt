-- Document 01's example problem, and damaged ones, by computation.
use Prim.Native.Nat.{ℕ}
use mathlib.Core.Path.{◌≡◌, refl}
use mathlib.Core.Bool.{Bool, true, false}
use mathlib.Core.List.{List, [], ◌∷◌, ◌++◌, map}
use lib.ListN.{replicate}
use Rattle.decimal.specs.Decimal.{digits, digits_by}
use Rattle.model.specs.declared.generator.Generator.{Generator}
use Rattle.model.specs.Instance.{Instance}
use Rattle.model.specs.Ranges.{WellFormed, midnight_ordered, ordered}
use Rattle.model.specs.Examples.{at_ends, beyond_ends}
use Rattle.text.specs.Lines.{kind_of}
use Rattle.text.specs.Forms.{malformed, wrong_count, outside_range}
use Rattle.text.specs.Rendering.{rendered, plain_line, text_of}
use Rattle.text.specs.Course.{refused_at, accepted, judged_from}
use Rattle.text.specs.Strings.{lines}
use Rattle.problem.specs.Units.{unit_key, Tini_place, unit_line, unit_of}
use Rattle.problem.specs.Rendering.{periods_key, units_key, demand_key, spare_key, lines_after, render}
use Rattle.problem.specs.Course.{judge, problem_judged}
use Rattle.problem.specs.ReadAnswers.{IsProblem}
use Rattle.problem.proofs.Acceptance.{accepted_rendered}

-- ---- the example of document 01, The listing program

-- kind=problem
abbrev kind_line : List ℕ
kind_line = 107 ∷ 105 ∷ 110 ∷ 100 ∷ 61 ∷ 112 ∷ 114 ∷ 111 ∷ 98 ∷ 108 ∷ 101 ∷ 109 ∷ []

-- periods=2
abbrev periods_line : List ℕ
periods_line = 112 ∷ 101 ∷ 114 ∷ 105 ∷ 111 ∷ 100 ∷ 115 ∷ 61 ∷ 50 ∷ []

-- units=2
abbrev units_line : List ℕ
units_line = 117 ∷ 110 ∷ 105 ∷ 116 ∷ 115 ∷ 61 ∷ 50 ∷ []

-- demand=60,100
abbrev demand_line : List ℕ
demand_line = 100 ∷ 101 ∷ 109 ∷ 97 ∷ 110 ∷ 100 ∷ 61 ∷ 54 ∷ 48 ∷ 44 ∷ 49 ∷ 48 ∷ 48 ∷ []

-- spare=10,10
abbrev spare_line : List ℕ
spare_line = 115 ∷ 112 ∷ 97 ∷ 114 ∷ 101 ∷ 61 ∷ 49 ∷ 48 ∷ 44 ∷ 49 ∷ 48 ∷ []

-- unit=100,10,0,20,80,2,2,3,30,30,50,90,1,5,60
abbrev first_unit : List ℕ
first_unit = 117 ∷ 110 ∷ 105 ∷ 116 ∷ 61 ∷ 49 ∷ 48 ∷ 48 ∷ 44 ∷ 49 ∷ 48 ∷ 44 ∷ 48 ∷ 44 ∷ 50 ∷ 48 ∷ 44 ∷ 56 ∷ 48 ∷ 44 ∷ 50 ∷ 44 ∷ 50 ∷ 44 ∷ 51 ∷ 44 ∷ 51 ∷ 48 ∷ 44 ∷ 51 ∷ 48 ∷ 44 ∷ 53 ∷ 48 ∷ 44 ∷ 57 ∷ 48 ∷ 44 ∷ 49 ∷ 44 ∷ 53 ∷ 44 ∷ 54 ∷ 48 ∷ []

-- unit=40,14,0,10,50,1,1,-2,50,50,20,60,0,0,0
abbrev second_unit : List ℕ
second_unit = 117 ∷ 110 ∷ 105 ∷ 116 ∷ 61 ∷ 52 ∷ 48 ∷ 44 ∷ 49 ∷ 52 ∷ 44 ∷ 48 ∷ 44 ∷ 49 ∷ 48 ∷ 44 ∷ 53 ∷ 48 ∷ 44 ∷ 49 ∷ 44 ∷ 49 ∷ 44 ∷ 45 ∷ 50 ∷ 44 ∷ 53 ∷ 48 ∷ 44 ∷ 53 ∷ 48 ∷ 44 ∷ 50 ∷ 48 ∷ 44 ∷ 54 ∷ 48 ∷ 44 ∷ 48 ∷ 44 ∷ 48 ∷ 44 ∷ 48 ∷ []

-- end=problem
abbrev end_line : List ℕ
end_line = 101 ∷ 110 ∷ 100 ∷ 61 ∷ 112 ∷ 114 ∷ 111 ∷ 98 ∷ 108 ∷ 101 ∷ 109 ∷ []

abbrev unit_one : Generator
unit_one = record { a = 100; b = 10; c = 0; pL = 20; pU = 80; TU = 2; TD = 2; on = true; since = 3; DR = 30; UR = 30; Hsc = 50; Csc = 90; Tcold = 1; Dc = 5; p0 = 60 }

abbrev unit_two : Generator
unit_two = record { a = 40; b = 14; c = 0; pL = 10; pU = 50; TU = 1; TD = 1; on = false; since = 2; DR = 50; UR = 50; Hsc = 20; Csc = 60; Tcold = 0; Dc = 0; p0 = 0 }

abbrev pub example : Instance
example = record { periods = 2; demand = 60 ∷ 100 ∷ []; spare = 10 ∷ 10 ∷ []; units = unit_one ∷ unit_two ∷ [] }

-- its bytes
abbrev pub example_text : List ℕ
example_text = text_of (kind_line ∷ periods_line ∷ units_line ∷ demand_line ∷ spare_line ∷ first_unit ∷ second_unit ∷ end_line ∷ [])

pub example_accepted : problem_judged example_text ≡ accepted example
unfolding problem_judged judged_from judge malformed wrong_count outside_range unit_of ordered midnight_ordered
example_accepted = refl

pub example_kind : IsProblem example_text
unfolding kind_of
example_kind = refl

pub example_rendered : render example ≡ example_text
unfolding render lines_after unit_line digits digits_by
example_rendered = refl

pub example_formed : WellFormed example
example_formed = (accepted_rendered example example_text example_kind example_accepted).1

-- ---- damaged ones

-- the second line is missing: 12, line 2
no_second_line : problem_judged (text_of (kind_line ∷ [])) ≡ refused_at 12 2
unfolding problem_judged judged_from judge malformed wrong_count outside_range unit_of ordered midnight_ordered
no_second_line = refl

-- periods=49: 13, line 2
too_many_periods : problem_judged (text_of (kind_line ∷ (112 ∷ 101 ∷ 114 ∷ 105 ∷ 111 ∷ 100 ∷ 115 ∷ 61 ∷ 52 ∷ 57 ∷ []) ∷ [])) ≡ refused_at 13 2
unfolding problem_judged judged_from judge malformed wrong_count outside_range unit_of ordered midnight_ordered
too_many_periods = refl

-- fourteen values, of which Tini is 0: 14, line 6
count_before_range : problem_judged (text_of (kind_line ∷ periods_line ∷ units_line ∷ demand_line ∷ spare_line ∷ (117 ∷ 110 ∷ 105 ∷ 116 ∷ 61 ∷ 49 ∷ 48 ∷ 48 ∷ 44 ∷ 49 ∷ 48 ∷ 44 ∷ 48 ∷ 44 ∷ 50 ∷ 48 ∷ 44 ∷ 56 ∷ 48 ∷ 44 ∷ 50 ∷ 44 ∷ 50 ∷ 44 ∷ 48 ∷ 44 ∷ 51 ∷ 48 ∷ 44 ∷ 51 ∷ 48 ∷ 44 ∷ 53 ∷ 48 ∷ 44 ∷ 57 ∷ 48 ∷ 44 ∷ 49 ∷ 44 ∷ 53 ∷ []) ∷ [])) ≡ refused_at 14 6
unfolding problem_judged judged_from judge malformed wrong_count outside_range unit_of ordered midnight_ordered
count_before_range = refl

-- a minus at the seventh value: 12, line 6
minus_misplaced : problem_judged (text_of (kind_line ∷ periods_line ∷ units_line ∷ demand_line ∷ spare_line ∷ (117 ∷ 110 ∷ 105 ∷ 116 ∷ 61 ∷ 49 ∷ 48 ∷ 48 ∷ 44 ∷ 49 ∷ 48 ∷ 44 ∷ 48 ∷ 44 ∷ 50 ∷ 48 ∷ 44 ∷ 56 ∷ 48 ∷ 44 ∷ 50 ∷ 44 ∷ 45 ∷ 50 ∷ 44 ∷ 51 ∷ 44 ∷ 51 ∷ 48 ∷ 44 ∷ 51 ∷ 48 ∷ 44 ∷ 53 ∷ 48 ∷ 44 ∷ 57 ∷ 48 ∷ 44 ∷ 49 ∷ 44 ∷ 53 ∷ 44 ∷ 54 ∷ 48 ∷ []) ∷ [])) ≡ refused_at 12 6
unfolding problem_judged judged_from judge malformed wrong_count outside_range unit_of ordered midnight_ordered
minus_misplaced = refl

-- pL above pU: 15, line 7
limits_crossed : problem_judged (text_of (kind_line ∷ periods_line ∷ units_line ∷ demand_line ∷ spare_line ∷ first_unit ∷ (117 ∷ 110 ∷ 105 ∷ 116 ∷ 61 ∷ 52 ∷ 48 ∷ 44 ∷ 49 ∷ 52 ∷ 44 ∷ 48 ∷ 44 ∷ 54 ∷ 48 ∷ 44 ∷ 53 ∷ 48 ∷ 44 ∷ 49 ∷ 44 ∷ 49 ∷ 44 ∷ 45 ∷ 50 ∷ 44 ∷ 53 ∷ 48 ∷ 44 ∷ 53 ∷ 48 ∷ 44 ∷ 50 ∷ 48 ∷ 44 ∷ 54 ∷ 48 ∷ 44 ∷ 48 ∷ 44 ∷ 48 ∷ 44 ∷ 48 ∷ []) ∷ [])) ≡ refused_at 15 7
unfolding problem_judged judged_from judge malformed wrong_count outside_range unit_of ordered midnight_ordered
limits_crossed = refl

-- a byte 10 after the end line: 12, line 9
one_byte_over : problem_judged (text_of (kind_line ∷ periods_line ∷ units_line ∷ demand_line ∷ spare_line ∷ first_unit ∷ second_unit ∷ end_line ∷ [] ∷ [])) ≡ refused_at 12 9
unfolding problem_judged judged_from judge malformed wrong_count outside_range unit_of ordered midnight_ordered
one_byte_over = refl

-- ---- the ends of the ranges

abbrev periods : ℕ → List ℕ
periods T = plain_line periods_key (T ∷ [])

abbrev units : ℕ → List ℕ
units I = plain_line units_key (I ∷ [])

-- a unit line with these pL, pU and p0, Tini being 1, or -1 with a minus
abbrev outputs_from : Bool → ℕ → ℕ → ℕ → List ℕ
outputs_from minus pL pU p0 = rendered unit_key Tini_place minus (0 ∷ 0 ∷ 0 ∷ pL ∷ pU ∷ 1 ∷ 1 ∷ 1 ∷ 1 ∷ 1 ∷ 0 ∷ 0 ∷ 0 ∷ 0 ∷ p0 ∷ [])

-- Each text ends after the line in question: where that is good, the next one is missing, 12. T 1, 48, 0, 49; I 1, 32, 0, 33; D 0 and 320,000, 320,001; R the same
pub range_ends : map (λ ls. problem_judged (text_of (kind_line ∷ ls))) (
    (periods 1 ∷ []) ∷ (periods 48 ∷ []) ∷ (periods 0 ∷ []) ∷ (periods 49 ∷ [])
    ∷ (periods 2 ∷ units 1 ∷ []) ∷ (periods 2 ∷ units 32 ∷ []) ∷ (periods 2 ∷ units 0 ∷ []) ∷ (periods 2 ∷ units 33 ∷ [])
    ∷ (periods 2 ∷ units 1 ∷ plain_line demand_key (0 ∷ 320000 ∷ []) ∷ []) ∷ (periods 2 ∷ units 1 ∷ plain_line demand_key (0 ∷ 320001 ∷ []) ∷ [])
    ∷ (periods 2 ∷ units 1 ∷ demand_line ∷ plain_line spare_key (0 ∷ 320000 ∷ []) ∷ [])
    ∷ (periods 2 ∷ units 1 ∷ demand_line ∷ plain_line spare_key (0 ∷ 320001 ∷ []) ∷ []) ∷ [])
    ≡ refused_at 12 3 ∷ refused_at 12 3 ∷ refused_at 13 2 ∷ refused_at 13 2
    ∷ refused_at 12 4 ∷ refused_at 12 4 ∷ refused_at 13 3 ∷ refused_at 13 3
    ∷ refused_at 12 5 ∷ refused_at 13 4 ∷ refused_at 12 6 ∷ refused_at 13 5 ∷ []
unfolding problem_judged judged_from judge malformed wrong_count outside_range digits digits_by
range_ends = refl

-- document 02, [3], on the line of the only unit; where it is good, the end line is missing, 12. On before, pL 2 and pU 9: p0 2, 9, 1, 10, 0; off before: p0 0, 1; p0
-- 10,000 with pU 10,000, 10,001 with the same, and with pL above pU
pub midnight_ends : map (λ l. problem_judged (text_of (kind_line ∷ periods 2 ∷ units 1 ∷ demand_line ∷ spare_line ∷ l ∷ []))) (
    outputs_from false 2 9 2 ∷ outputs_from false 2 9 9 ∷ outputs_from false 2 9 1 ∷ outputs_from false 2 9 10 ∷ outputs_from false 2 9 0
    ∷ outputs_from true 2 9 0 ∷ outputs_from true 2 9 1
    ∷ outputs_from false 2 10000 10000 ∷ outputs_from false 2 10000 10001 ∷ outputs_from false 9 2 10001 ∷ [])
    ≡ refused_at 12 7 ∷ refused_at 12 7 ∷ refused_at 15 6 ∷ refused_at 15 6 ∷ refused_at 15 6
    ∷ refused_at 12 7 ∷ refused_at 15 6
    ∷ refused_at 12 7 ∷ refused_at 13 6 ∷ refused_at 13 6 ∷ []
unfolding problem_judged judged_from judge malformed wrong_count outside_range unit_of ordered midnight_ordered digits digits_by
midnight_ends = refl

-- fourteen good values, a comma and these bytes
abbrev with_last : List ℕ → List ℕ
with_last v = rendered unit_key Tini_place false (0 ∷ 0 ∷ 0 ∷ 1 ∷ 1 ∷ 1 ∷ 1 ∷ 1 ∷ 1 ∷ 1 ∷ 0 ∷ 0 ∷ 0 ∷ 0 ∷ []) ++ (44 ∷ v)

-- sixteen values, the first out of range: 14. At the fifteenth place a minus, a leading zero, nothing: 12
pub midnight_malformed : map (λ l. problem_judged (text_of (kind_line ∷ periods 2 ∷ units 1 ∷ demand_line ∷ spare_line ∷ l ∷ []))) (
    rendered unit_key Tini_place false (1000000001 ∷ 0 ∷ 0 ∷ 1 ∷ 1 ∷ 1 ∷ 1 ∷ 1 ∷ 1 ∷ 1 ∷ 0 ∷ 0 ∷ 0 ∷ 0 ∷ 1 ∷ 0 ∷ [])
    ∷ with_last (45 ∷ 49 ∷ []) ∷ with_last (48 ∷ 49 ∷ []) ∷ with_last [] ∷ [])
    ≡ refused_at 14 6 ∷ refused_at 12 6 ∷ refused_at 12 6 ∷ refused_at 12 6 ∷ []
unfolding problem_judged judged_from judge malformed wrong_count outside_range unit_of ordered midnight_ordered digits digits_by
midnight_malformed = refl

-- the fifteen numbers on the line of the only unit, at their ends and one beyond; where the line is good, the end line is missing, 12
pub unit_ends : (map (λ g. problem_judged (text_of (kind_line ∷ periods 2 ∷ units 1 ∷ demand_line ∷ spare_line ∷ unit_line g ∷ []))) at_ends ≡ replicate 4 (refused_at 12 7))
    × (map (λ g. problem_judged (text_of (kind_line ∷ periods 2 ∷ units 1 ∷ demand_line ∷ spare_line ∷ unit_line g ∷ []))) beyond_ends ≡ replicate 23 (refused_at 13 6))
unfolding problem_judged judged_from judge malformed wrong_count outside_range unit_of unit_line ordered midnight_ordered digits digits_by
unit_ends = (refl, refl)

-- ---- the order of the numbers on a line: each breaks two, and the first of 12, 14, 13, 15 refuses it

-- of 12 and 14, 12 and 13, 14 and 13: the lines periods, units, demand and spare, after good ones; the line after it, missing, is 12 too and comes later
pub plain_order : map (λ ls. problem_judged (lines ("kind=problem" ∷ ls))) (
    ("periods=01,1" ∷ []) ∷ ("periods=049" ∷ []) ∷ ("periods=49,1" ∷ [])
    ∷ ("periods=2" ∷ "units=01,1" ∷ []) ∷ ("periods=2" ∷ "units=033" ∷ []) ∷ ("periods=2" ∷ "units=33,1" ∷ [])
    ∷ ("periods=2" ∷ "units=1" ∷ "demand=01" ∷ []) ∷ ("periods=2" ∷ "units=1" ∷ "demand=01,320001" ∷ []) ∷ ("periods=2" ∷ "units=1" ∷ "demand=320001" ∷ [])
    ∷ ("periods=2" ∷ "units=1" ∷ "demand=1,1" ∷ "spare=01" ∷ []) ∷ ("periods=2" ∷ "units=1" ∷ "demand=1,1" ∷ "spare=01,320001" ∷ [])
    ∷ ("periods=2" ∷ "units=1" ∷ "demand=1,1" ∷ "spare=320001" ∷ []) ∷ [])
    ≡ refused_at 12 2 ∷ refused_at 12 2 ∷ refused_at 14 2 ∷ refused_at 12 3 ∷ refused_at 12 3 ∷ refused_at 14 3
    ∷ refused_at 12 4 ∷ refused_at 12 4 ∷ refused_at 14 4 ∷ refused_at 12 5 ∷ refused_at 12 5 ∷ refused_at 14 5 ∷ []
unfolding problem_judged judged_from judge malformed wrong_count outside_range
plain_order = refl

-- the line of the only unit. 12 and 14: a leading zero and fourteen numbers; 12 and 13: a leading zero and c 10,001, and Tini -0; 12 and 15: a leading zero and pL above
-- pU. 14 and 13: fourteen, and sixteen, with c 10,001; 14 and 15: fourteen with pL above pU, sixteen with Hsc above Csc. 13 and 15: pL 10,001 above pU, Hsc 1,000,000,001
-- above Csc, and c 10,001 with a p0 below pL, and with one that is not 0 after periods off
pub unit_order : map (λ l. problem_judged (lines ("kind=problem" ∷ "periods=2" ∷ "units=1" ∷ "demand=1,1" ∷ "spare=1,1" ∷ l ∷ []))) (
    "unit=00,0,0,1,1,1,1,1,1,1,0,0,0,0" ∷ "unit=00,0,10001,1,1,1,1,1,1,1,0,0,0,0,1" ∷ "unit=0,0,0,1,1,1,1,-0,1,1,0,0,0,0,0" ∷ "unit=00,0,0,2,1,1,1,1,1,1,0,0,0,0,1"
    ∷ "unit=0,0,10001,1,1,1,1,1,1,1,0,0,0,0" ∷ "unit=0,0,10001,1,1,1,1,1,1,1,0,0,0,0,1,1"
    ∷ "unit=0,0,0,2,1,1,1,1,1,1,0,0,0,0" ∷ "unit=0,0,0,1,1,1,1,1,1,1,1,0,0,0,1,1"
    ∷ "unit=0,0,0,10001,10000,1,1,1,1,1,0,0,0,0,1" ∷ "unit=0,0,0,1,1,1,1,1,1,1,1000000001,1000000000,0,0,1"
    ∷ "unit=0,0,10001,2,2,1,1,1,1,1,0,0,0,0,1" ∷ "unit=0,0,10001,1,1,1,1,-1,1,1,0,0,0,0,1" ∷ [])
    ≡ replicate 4 (refused_at 12 6) ++ (replicate 4 (refused_at 14 6) ++ replicate 4 (refused_at 13 6))
unfolding problem_judged judged_from judge malformed wrong_count outside_range unit_of ordered midnight_ordered
unit_order = refl

-- an earlier line comes first, whatever the numbers: 14 or 13 at line 2, 13 at line 5 and 15 at line 6, each before a line that is not the one due
pub earlier_line : map (λ ls. problem_judged (lines ("kind=problem" ∷ ls))) (
    ("periods=2,2" ∷ "unit=1" ∷ []) ∷ ("periods=0" ∷ "unit=1" ∷ [])
    ∷ ("periods=1" ∷ "units=2" ∷ "demand=1" ∷ "spare=320001" ∷ "end=problem" ∷ [])
    ∷ ("periods=1" ∷ "units=2" ∷ "demand=1" ∷ "spare=1" ∷ "unit=0,0,0,2,1,1,1,1,1,1,0,0,0,0,1" ∷ "end=problem" ∷ []) ∷ [])
    ≡ refused_at 14 2 ∷ refused_at 13 2 ∷ refused_at 13 5 ∷ refused_at 15 6 ∷ []
unfolding problem_judged judged_from judge malformed wrong_count outside_range unit_of ordered midnight_ordered
earlier_line = refl
