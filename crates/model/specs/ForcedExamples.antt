-- Document 02, [5], on numbers: a unit's entries. Every line is found by computing.
use Rattle.std.specs.Prelude.{◌≡◌, refl, true, false, cond, List, [], ◌∷◌, map, ℕ, zero, suc, ltb, ℤ, pos, neg_ℤ}
use Rattle.std.proofs.Math.Option.{Option, none, some}
use Rattle.model.specs.declared.generator.Generator.{Generator}
use Rattle.model.specs.Instance.{◌at◌}
use Rattle.model.specs.Cost.{row_cost}
use Rattle.model.specs.Above.{Mark, free, fixed, Marks}
use Rattle.model.specs.Leaf.{rows_of, is_stuck, revenue, value, unit_least}
use Rattle.model.specs.Forced.{forced_table, forced_tables, value_number, stuck_number}
use Rattle.model.specs.Examples.{line, unit2}

-- a unit's entries in n periods at the prices q, with no price on reserve
abbrev entries : Generator → (ℕ → Mark) → ℕ → List ℕ → List (Option ℤ)
entries g m n q = forced_table n (λ t. q at t) (λ t. 0) g m

abbrev nothing : ℕ → Mark
nothing t = free

-- document 01's second unit at 10 and 14: period 1 off and on, then period 2. Off throughout costs 0, on in period 1 alone 140, in period 2 alone 100, in both 180
second_unit : entries unit2 nothing 2 (10 ∷ 14 ∷ []) ≡ some (pos 0) ∷ some (pos 140) ∷ some (pos 0) ∷ some (pos 100) ∷ []
unfolding forced_table is_stuck unit_least rows_of value revenue row_cost
second_unit = refl

-- fixed on in period 2: off there says stuck, on is the unit's least value, and period 1 is under both
abbrev on_in_2 : ℕ → Mark
on_in_2 zero = free
on_in_2 (suc t) = fixed true

fixed_there : entries unit2 on_in_2 2 (10 ∷ 14 ∷ []) ≡ some (pos 100) ∷ some (pos 180) ∷ none ∷ some (pos 100) ∷ []
unfolding forced_table is_stuck unit_least rows_of value revenue row_cost
fixed_there = refl

-- off for 3 periods at least and off for 1 before period 1: it may be on in period 3 alone, where it is worth 3
late : entries (line 0 0 0 1 1 1 3 false 1 10 10 0 0 0 0 0) nothing 3 (3 ∷ 3 ∷ 3 ∷ []) ≡ some (neg_ℤ (pos 3)) ∷ none ∷ some (neg_ℤ (pos 3)) ∷ none ∷ some (pos 0) ∷ some (neg_ℤ (pos 3)) ∷ []
unfolding forced_table is_stuck unit_least rows_of value revenue row_cost
late = refl

-- a start costs 2 up to TD + Tcold, 2, periods off and 5 after more; it is off for 1 before period 1. Nothing fixed, off in period 1, off in periods 1 and 2
abbrev cold : Generator
cold = line 0 0 0 1 1 1 1 false 1 10 10 2 5 1 0 0

abbrev off_before : ℕ → ℕ → Mark
off_before k t = cond (ltb t k) (fixed false) free

starts : map (λ k. entries cold (off_before k) 3 []) (0 ∷ 1 ∷ 2 ∷ [])
    ≡ (some (pos 0) ∷ some (pos 2) ∷ some (pos 0) ∷ some (pos 2) ∷ some (pos 0) ∷ some (pos 2) ∷ [])
    ∷ (some (pos 0) ∷ none ∷ some (pos 0) ∷ some (pos 2) ∷ some (pos 0) ∷ some (pos 2) ∷ [])
    ∷ (some (pos 0) ∷ none ∷ some (pos 0) ∷ none ∷ some (pos 0) ∷ some (pos 5) ∷ [])
    ∷ []
unfolding forced_table is_stuck unit_least rows_of value revenue row_cost
starts = refl

-- a unit that is stuck by its marks says so throughout, and the other's entries, on throughout being worth 4 and on in one period alone 1, stand behind it; each in two numbers
abbrev first_stuck : Marks
first_stuck zero t = fixed true
first_stuck (suc u) t = free

abbrev both_units : List (Option ℤ)
both_units = forced_tables 2 (λ t. 3) (λ t. 0) (line 0 0 0 1 1 1 3 false 1 10 10 0 0 0 0 0 ∷ cold ∷ []) first_stuck

two_units : (map value_number both_units ≡ pos 0 ∷ pos 0 ∷ pos 0 ∷ pos 0 ∷ neg_ℤ (pos 1) ∷ neg_ℤ (pos 4) ∷ neg_ℤ (pos 1) ∷ neg_ℤ (pos 4) ∷ [])
    × (map stuck_number both_units ≡ 1 ∷ 1 ∷ 1 ∷ 1 ∷ 0 ∷ 0 ∷ 0 ∷ 0 ∷ [])
unfolding forced_tables forced_table is_stuck unit_least rows_of value revenue row_cost
two_units = (refl, refl)
