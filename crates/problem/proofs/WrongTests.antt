-- Two wrong ways to test lines, as definition and code could have them together, and what refutes them: by renderings another line is refused, or by another
-- number. Each is refuted on the bytes of one text.
use Prim.Native.Nat.{ℕ}
use native.Mathlib.Omega.{arith}
use mathlib.Core.Path.{◌≡◌, refl, sym, ap, ◌∙◌}
use mathlib.Core.Bool.{Bool, true, false, not, ◌||◌}
use mathlib.Core.List.{List, [], ◌∷◌}
use mathlib.Core.Logic.{◌↔◌}
use lib.Dec.{ltb}
use lib.ListN.{length}
use Rattle.decimal.specs.Decimal.{digits, digits_by}
use Rattle.model.specs.Instance.{Instance}
use Rattle.model.specs.Ranges.{every, midnight_ordered, ordered}
use Rattle.text.specs.Lines.{Line, ended, later, lines_of, is_line, kind_problem, end_problem}
use Rattle.text.specs.Forms.{Form, unsigned, values_of, malformed, wrong_count, outside_range, form_tests, word_tests, nothing_tests}
use Rattle.text.specs.Rendering.{rendered, plain_line, text_of}
use Rattle.text.specs.Course.{Judged, refused_at, accepted, judged_from}
use Rattle.text.specs.Tests.{Test, ◌if◌, FirstTrue, this}
use Rattle.text.specs.LineRefused.{Renders, Unfit, shows_none, miscounted, out_of_range}
use Rattle.text.proofs.Courses.{judge}
use Rattle.text.proofs.Partition.{twelve_is}
use Rattle.problem.specs.Units.{unit_key, Tini_place, unit_form, unit_of}
use Rattle.problem.specs.Rendering.{periods_key, units_key, demand_key, spare_key}
use Rattle.problem.specs.Course as course
use Rattle.problem.specs.Course.{Due, periods_due, units_due, demand_due, spare_due, unit_due, end_due, nothing_due, next_due, end, tests, problem_judged}
use Rattle.problem.specs.Refusals.{RefusedAt, periods_form, units_form, demand_form, spare_form}
use Rattle.problem.proofs.Refusals.{refused_is}

-- ---- the law of refused lines, were lines tested otherwise

-- a problem's text whose lines are tested so
abbrev judged_by : (Due → Line → List Test) → List ℕ → Judged Instance
judged_by tests text = judged_from (judge tests next_due end) end 2 periods_due (later (lines_of text))

abbrev pub RefusesLines : (Due → Line → List Test) → Type 0
RefusesLines tests = (n m : ℕ) (text : List ℕ) → (judged_by tests text ≡ refused_at n m) ↔ RefusedAt text n m

-- it holds as they are tested
pub tests_refuse : RefusesLines tests
unfolding problem_judged course.judge
tests_refuse = refused_is

refused_number : Judged Instance → ℕ
refused_number (refused_at n m) = n
refused_number (accepted P) = 0

refused_line : Judged Instance → ℕ
refused_line (refused_at n m) = m
refused_line (accepted P) = 0

-- ---- 15 only at the end line, for all units at once

abbrev late_tests : Due → Line → List Test
late_tests periods_due l = form_tests periods_form l []
late_tests (units_due T) l = form_tests units_form l []
late_tests (demand_due T I) l = form_tests (demand_form T) l []
late_tests (spare_due T I D) l = form_tests (spare_form T) l []
late_tests (unit_due n P) l = form_tests unit_form l []
late_tests (end_due P) l = 12 if not (is_line end_problem l) ∷ 15 if not (every ordered P.units) ∷ []
late_tests (nothing_due P) l = nothing_tests

-- one period and one unit, whose pL is 2 and pU 1
abbrev crossed_text : List ℕ
crossed_text = text_of (
    kind_problem ∷ plain_line periods_key (1 ∷ []) ∷ plain_line units_key (1 ∷ []) ∷ plain_line demand_key (0 ∷ []) ∷ plain_line spare_key (0 ∷ [])
    ∷ rendered unit_key Tini_place false (0 ∷ 0 ∷ 0 ∷ 2 ∷ 1 ∷ 1 ∷ 1 ∷ 1 ∷ 1 ∷ 1 ∷ 0 ∷ 0 ∷ 0 ∷ 0 ∷ 1 ∷ []) ∷ end_problem ∷ []
    )

crossed_late : judged_by late_tests crossed_text ≡ refused_at 15 7
unfolding judged_from malformed wrong_count outside_range unit_of ordered midnight_ordered digits digits_by
crossed_late = refl

crossed_due : judged_by tests crossed_text ≡ refused_at 15 6
unfolding judged_from malformed wrong_count outside_range unit_of ordered midnight_ordered digits digits_by
crossed_due = refl

-- its line is not the one that is refused by renderings
pub late_refuted : RefusesLines late_tests → ⊥
unfolding refused_line
late_refuted law = omega (arith, ap refused_line (sym crossed_due ∙ (tests_refuse 15 7 crossed_text).1 ((law 15 7 crossed_text).0 crossed_late)))

-- ---- 12 for a numeral of more than twenty digits

abbrev any_long : List (List ℕ) → Bool
any_long [] = false
any_long (f ∷ fs) = ltb 20 (length (unsigned f)) || any_long fs

abbrev long_form_tests : Form → Line → List Test → List Test
long_form_tests f l ts = 12 if (malformed f l || any_long (values_of f l)) ∷ 14 if wrong_count f l ∷ 13 if outside_range f l ∷ ts

abbrev long_tests : Due → Line → List Test
long_tests periods_due l = long_form_tests periods_form l []
long_tests (units_due T) l = long_form_tests units_form l []
long_tests (demand_due T I) l = long_form_tests (demand_form T) l []
long_tests (spare_due T I D) l = long_form_tests (spare_form T) l []
long_tests (unit_due n P) l = long_form_tests unit_form l (15 if not (ordered (unit_of l)) ∷ [])
long_tests (end_due P) l = word_tests end_problem l
long_tests (nothing_due P) l = nothing_tests

-- periods=100000000000000000000000
abbrev long_line : List ℕ
long_line = plain_line periods_key (100000000000000000000000 ∷ [])

abbrev long_text : List ℕ
long_text = text_of (kind_problem ∷ long_line ∷ [])

long_twelve : judged_by long_tests long_text ≡ refused_at 12 2
unfolding judged_from malformed wrong_count outside_range digits digits_by
long_twelve = refl

long_due : judged_by tests long_text ≡ refused_at 13 2
unfolding judged_from malformed wrong_count outside_range digits digits_by
long_due = refl

-- its number is not the one that refuses the line by renderings
pub long_refuted : RefusesLines long_tests → ⊥
unfolding refused_number
long_refuted law = omega (arith, ap refused_number (sym long_due ∙ (tests_refuse 12 2 long_text).1 ((law 12 2 long_text).0 long_twelve)))

-- so too of one line: it is 12 by these tests, and it shows a value
called_12 : (malformed periods_form (ended long_line) || any_long (values_of periods_form (ended long_line))) ≡ true
unfolding malformed digits digits_by
called_12 = refl

not_12 : malformed periods_form (ended long_line) ≡ false
unfolding malformed digits digits_by
not_12 = refl

shows_no_values : (f : Form) (l : Line) (n : ℕ) → Unfit f l n → n ≡ 12 → (neg : Bool) (vs : List ℕ) → Renders f l neg vs → ⊥
shows_no_values f l n (shows_none never) e = never
shows_no_values f l n (miscounted neg vs r never) e = λ _ _ _. omega (arith, e)
shows_no_values f l n (out_of_range neg vs r c never) e = λ _ _ _. omega (arith, e)

pub long_line_refuted : ((n : ℕ) (f : Form) (l : Line) → FirstTrue n (long_form_tests f l []) ↔ Unfit f l n) → ⊥
long_line_refuted law =
    let r = (twelve_is periods_form (ended long_line)).0 not_12 in
    shows_no_values periods_form (ended long_line) 12 ((law 12 periods_form (ended long_line)).0 (this called_12)) refl r.0 r.1 r.2
