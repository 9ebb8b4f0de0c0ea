-- A problem and a schedule as values (document 01, Texts).
use Rattle.std.specs.Prelude.{Bool, true, false, List, [], ◌∷◌, ℕ, zero, suc, ◌+◌, get_or, ℤ, pos, neg_ℤ}
use Rattle.model.specs.declared.generator.Generator.{Generator}

-- document 01's problem: T, the demand D and the spare R of each period, and its units
pub record Instance : Type 0 where
  pub periods : ℕ
  pub demand : List ℕ
  pub spare : List ℕ
  pub units : List Generator

-- a row of outputs for each unit
abbrev pub Schedule : Type 0
Schedule = List (List ℕ)

-- Tini: the periods on before period 1, or, with a minus, the periods off
abbrev pub Tini : Generator → ℤ
Tini g = signed g.on g.since
  where
    signed : Bool → ℕ → ℤ
    signed true n = pos n
    signed false n = neg_ℤ (pos n)

-- what a list has in a period, 0 past its end. Periods and units count from 0 here, from 1 in texts and refusals
infixl 80 ◌at◌
abbrev pub ◌at◌ : List ℕ → ℕ → ℕ
l at t = get_or l t 0

-- the sum over the first n periods
abbrev pub sum : ℕ → (ℕ → ℕ) → ℕ
sum zero f = 0
sum (suc n) f = f 0 + sum n (λ t. f (suc t))

-- the sum over the units, each with its row
abbrev pub sum_units : (Generator → List ℕ → ℕ) → List Generator → Schedule → ℕ
sum_units f [] rows = 0
sum_units f (g ∷ gs) [] = 0
sum_units f (g ∷ gs) (r ∷ rows) = f g r + sum_units f gs rows

-- of every unit with its row, as many rows as units
abbrev pub Each : (Generator → List ℕ → Type 0) → List Generator → Schedule → Type 0
Each R [] [] = Unit {0}
Each R [] (r ∷ rows) = ⊥
Each R (g ∷ gs) [] = ⊥
Each R (g ∷ gs) (r ∷ rows) = R g r × Each R gs rows
