-- Document 02, [7], on numbers: the run behind a minimum among equals, and shortfalls. Every line is found by computing.
use Rattle.std.specs.Prelude.{◌≡◌, refl, Bool, true, false, List, [], ◌∷◌, map, ℕ, ℤ, pos, neg_ℤ}
use Rattle.model.specs.declared.generator.Generator.{Generator}
use Rattle.model.specs.Instance.{◌at◌}
use Rattle.model.specs.Rules.{if_on, output}
use Rattle.model.specs.Cost.{row_cost}
use Rattle.model.specs.Above.{Mark, free, fixed}
use Rattle.model.specs.Leaf.{rows_of, is_stuck, revenue, value, unit_least}
use Rattle.model.specs.Runs.{least_row, first_stuck, shortfall, shortfalls}
use Rattle.model.specs.Examples.{line, example, rows}

-- a unit's run at the prices q, with no price on reserve, and its value
abbrev run_at : Generator → (ℕ → Mark) → ℕ → List ℕ → List ℕ × ℤ
run_at g m n q = (least_row n (λ t. q at t) (λ t. 0) g m, unit_least n (λ t. q at t) (λ t. 0) g m)

abbrev nothing : ℕ → Mark
nothing t = free

-- a unit on before period 1, outputs 2 to 4 at 5 each, with the start's cost h and the stop's cost d
abbrev even : ℕ → ℕ → Generator
even h d = line 0 5 0 2 4 1 1 true 1 10 10 h h 0 d 2

-- at the price 5 on and off are equal: off, the first period too; where a start costs 3 it pays to stay on, at the smallest output; where a stop costs 1, throughout
equals : (run_at (even 0 0) nothing 3 (5 ∷ 7 ∷ 5 ∷ []) ≡ (0 ∷ 4 ∷ 0 ∷ [], neg_ℤ (pos 8)))
    × (run_at (even 3 0) nothing 3 (5 ∷ 7 ∷ 5 ∷ []) ≡ (2 ∷ 4 ∷ 0 ∷ [], neg_ℤ (pos 8)))
    × (run_at (even 0 1) nothing 3 (5 ∷ 5 ∷ 5 ∷ []) ≡ (2 ∷ 2 ∷ 2 ∷ [], pos 0))
unfolding least_row unit_least rows_of value revenue row_cost
equals = (refl, refl, refl)

-- 2·p + p·p less 9·p is -12 at 3 and at 4: the smaller
smallest : run_at (line 0 2 1 2 6 1 1 false 1 10 10 0 0 0 0 0) (λ t. fixed true) 1 (9 ∷ []) ≡ (3 ∷ [], neg_ℤ (pos 12))
unfolding least_row unit_least rows_of value revenue row_cost
smallest = refl

-- on in period 1 alone and on in period 3 alone are worth the same: off in period 1, though it is on later
first_off : run_at (line 10 0 0 1 1 1 2 true 1 10 10 0 0 0 0 1) nothing 3 (15 ∷ 1 ∷ 15 ∷ []) ≡ (0 ∷ 0 ∷ 1 ∷ [], neg_ℤ (pos 5))
unfolding least_row unit_least rows_of value revenue row_cost
first_off = refl

-- D is 60 and 100: short by what is missing, and by nothing where the rows give as much or more; R, 10 in both periods, is not asked for
short_by : map (shortfalls example) (rows (20 ∷ 80 ∷ []) (0 ∷ 0 ∷ []) ∷ rows (60 ∷ 80 ∷ []) (0 ∷ 20 ∷ []) ∷ rows (80 ∷ 80 ∷ []) (0 ∷ 50 ∷ []) ∷ []) ≡ (40 ∷ 20 ∷ []) ∷ (0 ∷ 0 ∷ []) ∷ (0 ∷ 0 ∷ []) ∷ []
unfolding shortfall output
short_by = refl

-- on for 1 of 2 periods at least, a unit is stuck where it is fixed off in period 1: the first such unit of none, of one and of two
stopped : Bool → Generator
stopped b = line 0 0 0 1 1 2 1 b 1 10 10 0 0 0 0 (if_on b 1)

abbrev off_first : ℕ → ℕ → Mark
off_first u t = fixed false

firsts : map (λ gs. first_stuck 1 gs off_first) ((stopped false ∷ stopped false ∷ []) ∷ (stopped false ∷ stopped true ∷ []) ∷ (stopped true ∷ stopped true ∷ []) ∷ []) ≡ 2 ∷ 1 ∷ 0 ∷ []
unfolding stopped first_stuck is_stuck
firsts = refl
