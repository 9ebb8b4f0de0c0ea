-- Courses of a ramp leaf's lines that are not the one asked (document 02, [6]), each refuted by a text that it refuses at another line.
use mathlib.Core.Path.{◌≡◌, refl, sym, ◌∙◌}
use mathlib.Core.Bool.{Bool, true, false, ◌&&◌}
use mathlib.Core.List.{List, [], ◌∷◌}
use Prim.Native.Nat.{ℕ}
use native.Mathlib.Omega.{arith}
use Rattle.model.specs.Instance.{Instance}
use Rattle.model.specs.Leaf.{is_stuck, any_stuck}
use Rattle.model.specs.Examples.{example}
use Rattle.text.specs.Lines.{Line, later, lines_of}
use Rattle.text.specs.Course.{Found, Judged, refused_at, judged_from}
use Rattle.text.specs.Forms.{Form, plain, numbers_of, form_tests, malformed, wrong_count, outside_range}
use Rattle.text.specs.Tests.{◌if◌, found}
use Rattle.tree.specs.Rendering.{up_key, down_key}
use Rattle.tree.specs.Places.{Part, priced, ramp_priced, with_steps, with_ups}
use Rattle.tree.specs.Refusals.{part_form}
use Rattle.tree.specs.NodeLines.{line_kind_of, kind_tests, is_last, leaf_tests}
use Rattle.tree.specs.Acceptance.{Bounded}
use Rattle.tree.specs.Course.{Due, writer_due, nodes_due, part_due, nothing_due, tests, after_node, after_numbers, after_part, next_due, judge, end, tree_judged}
use Rattle.tree.proofs.RampLines.{ramp_lines, lone, above_stuck, last_down_refused}

-- ---- courses that differ from the right one in a leaf's later lines alone: in their forms, or in which of them is the last, at which 35 stands

module _ (f : Instance → Part → Form) (last : Instance → Part → Bool) where
  abbrev judge_by : Instance → Due → Line → Found Due
  judge_by P writer_due l = judge P writer_due l
  judge_by P (nodes_due F ps) l = judge P (nodes_due F ps) l
  judge_by P (part_due F A p ps) l =
      found (form_tests (f P p) l (35 if (last P p && any_stuck P.periods P.units A.marks) ∷ [])) (after_numbers P F A p ps (numbers_of (f P p) l))
  judge_by P (nothing_due F) l = judge P (nothing_due F) l

  abbrev judged_by : Instance → List ℕ → Judged Bounded
  judged_by P text = judged_from (judge_by P) end 2 writer_due (later (lines_of text))

  -- it is not the right one
  abbrev Wrong : Type 0
  Wrong = ((s : Due) (l : Line) → judge_by example s l ≡ judge example s l) → ⊥

  refuted : (text : List ℕ) (n m k o : ℕ) → judged_by example text ≡ refused_at n m → tree_judged example text ≡ refused_at k o → (m ≡ o → ⊥) → Wrong
  unfolding tree_judged
  refuted text n m k o a b c h =
      let e = sym a ∙ (λ i. judged_from (λ s l. h s l i) end 2 writer_due (later (lines_of text))) ∙ b in
      c cc

-- with its own forms and its own last line it is the right one
right : (P : Instance) (s : Due) (l : Line) → judge_by part_form is_last P s l ≡ judge P s l
unfolding judge tests next_due after_part leaf_tests
right P writer_due l = refl
right P (nodes_due F ps) l = refl
right P (part_due F A p ps) l = refl
right P (nothing_due F) l = refl

-- ---- 35 at the reserve line; at the down line of every unit; at no line

abbrev at_reserve : Instance → Part → Bool
at_reserve P (priced q) = true
at_reserve P (ramp_priced q) = true
at_reserve P (with_steps q s k) = false
at_reserve P (with_ups q s k x) = false

abbrev at_each_down : Instance → Part → Bool
at_each_down P (priced q) = true
at_each_down P (ramp_priced q) = false
at_each_down P (with_steps q s k) = false
at_each_down P (with_ups q s k x) = true

abbrev at_no_line : Instance → Part → Bool
at_no_line P (priced q) = true
at_no_line P (ramp_priced q) = false
at_no_line P (with_steps q s k) = false
at_no_line P (with_ups q s k x) = false

pub wrong_places : Wrong part_form at_reserve × Wrong part_form at_each_down × Wrong part_form at_no_line
unfolding judged_from judge tests next_due after_node line_kind_of malformed wrong_count outside_range kind_tests is_stuck
wrong_places = (
  refuted part_form at_reserve (above_stuck ramp_lines) 35 12 35 16 refl last_down_refused (λ e. omega arith),
  refuted part_form at_each_down (above_stuck ramp_lines) 35 14 35 16 refl last_down_refused (λ e. omega arith),
  refuted part_form at_no_line (above_stuck ramp_lines) 12 17 35 16 refl last_down_refused (λ e. omega arith),
)

-- ---- a unit's down line before its up line; a multiplier for each period in both

abbrev down_first : Instance → Part → Form
down_first P (priced q) = part_form P (priced q)
down_first P (ramp_priced q) = part_form P (ramp_priced q)
down_first P (with_steps q s k) = part_form P (with_ups q s k [])
down_first P (with_ups q s k x) = part_form P (with_steps q s k)

abbrev for_each_period : Instance → Part → Form
for_each_period P (priced q) = part_form P (priced q)
for_each_period P (ramp_priced q) = part_form P (ramp_priced q)
for_each_period P (with_steps q s k) = plain up_key P.periods 0 1000000000
for_each_period P (with_ups q s k x) = plain down_key P.periods 0 1000000000

-- a text that ends after the first up line, which is good
abbrev to_up : List ℕ
to_up = lone ("rampprice=1,1" ∷ "reserve=1,1" ∷ "up=1" ∷ [])

up_good : tree_judged example to_up ≡ refused_at 12 6
unfolding tree_judged judged_from judge tests next_due after_node after_part line_kind_of malformed wrong_count outside_range kind_tests leaf_tests
up_good = refl

pub wrong_forms : Wrong down_first is_last × Wrong for_each_period is_last
unfolding judged_from judge tests next_due after_node line_kind_of malformed wrong_count outside_range kind_tests
wrong_forms = (
  refuted down_first is_last to_up 12 5 12 6 refl up_good (λ e. omega arith),
  refuted for_each_period is_last to_up 14 5 12 6 refl up_good (λ e. omega arith),
)
