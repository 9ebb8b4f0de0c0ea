-- An answer has 16 numbers, and they tell it: it is had again from them.
use Prim.Native.Nat.{ℕ, zero, suc}
use mathlib.Core.Path.{◌≡◌, refl, sym, ap, ◌∙◌}
use mathlib.Core.List.{List, ◌∷◌}
use lib.IntN.{ℤ, pos, negsuc}
use lib.ListN.{length}
use Rattle.model.specs.Instance.{◌at◌}
use Rattle.model.specs.Figures.{Bound}
use Rattle.std.specs.Prelude.{None as never, Some as number}
use Rattle.model.specs.Figures.{tree_gives}
use Rattle.model.specs.Held.{pad}
use Rattle.answer.specs.StatedAnswers.{AnswerValues, no_values, its_cost, its_bound, Stated, refused, held, passed}
use Rattle.answer.specs.AnswerNumbers.{value_numbers, answer_numbers}

-- ---- how many they are

values_long : (k : ℕ) (v : AnswerValues) → length (pad 0 16 (k ∷ value_numbers v)) ≡ 16
unfolding pad
values_long k no_values = refl
values_long k (its_cost c) = refl
values_long k (its_bound F) = go F.bound F.splits F.leaves
  where
    go : (b : Bound) (m n : ℕ) → length (pad 0 16 (k ∷ value_numbers (its_bound (tree_gives b m n)))) ≡ 16
    go never m n = refl
    go (number (pos b)) m n = refl
    go (number (negsuc b)) m n = refl

pub answer_numbers_long : (s : Stated) → length (answer_numbers s) ≡ 16
unfolding answer_numbers pad
answer_numbers_long (refused n l u t) = refl
answer_numbers_long (held v) = values_long 1 v
answer_numbers_long (passed v) = values_long 2 v

-- ---- the answer of numbers

-- the number with this behind its minus
abbrev below : ℕ → ℤ
below zero = pos 0
below (suc n) = negsuc n

abbrev values_by : (kind size splits leaves : ℕ) → AnswerValues
values_by zero s m n = no_values
values_by (suc zero) s m n = its_cost s
values_by (suc (suc zero)) s m n = its_bound (tree_gives (number (pos s)) m n)
values_by (suc (suc (suc zero))) s m n = its_bound (tree_gives (number (below s)) m n)
values_by (suc (suc (suc (suc k)))) s m n = its_bound (tree_gives never m n)

abbrev values_in : List ℕ → AnswerValues
values_in v = values_by (v at 1) (v at 2) (v at 3) (v at 4)

abbrev answer_by : ℕ → List ℕ → Stated
answer_by zero v = refused (v at 2) (v at 3) (v at 4) (v at 5)
answer_by (suc zero) v = held (values_in v)
answer_by (suc (suc k)) v = passed (values_in v)

abbrev answer_in : List ℕ → Stated
answer_in v = answer_by (v at 0) v

-- ---- is the answer whose numbers they are

values_again : (k : ℕ) (v : AnswerValues) → values_in (pad 0 16 (k ∷ value_numbers v)) ≡ v
unfolding pad
values_again k no_values = refl
values_again k (its_cost c) = refl
values_again k (its_bound F) = go F.bound F.splits F.leaves
  where
    go : (b : Bound) (m n : ℕ) → values_in (pad 0 16 (k ∷ value_numbers (its_bound (tree_gives b m n)))) ≡ its_bound (tree_gives b m n)
    go never m n = refl
    go (number (pos b)) m n = refl
    go (number (negsuc b)) m n = refl

answer_again : (s : Stated) → answer_in (answer_numbers s) ≡ s
unfolding answer_numbers pad
answer_again (refused n l u t) = refl
answer_again (held v) = ap held (values_again 1 v)
answer_again (passed v) = ap passed (values_again 2 v)

-- equal numbers, equal answers
pub numbers_tell : (s t : Stated) → answer_numbers s ≡ answer_numbers t → s ≡ t
numbers_tell s t e = sym (answer_again s) ∙ ap answer_in e ∙ answer_again t
