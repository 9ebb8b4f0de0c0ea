-- Computed: where (15) as printed and its sentence part, that (16) keeps to the sentence, and a repair of (15) that is none.
use mathlib.Core.Path.{◌≡◌, refl}
use mathlib.Core.Bool.{Bool, true, false}
use mathlib.Core.List.{List, [], ◌∷◌}
use Prim.Native.Nat.{ℕ, zero, suc, ◌+◌, ◌*◌, ◌-◌, ◌≤◌, ◌<◌}
use native.Mathlib.Omega.{arith}
use lib.Dec.{T, lit<, lit≤}
use lib.IntN.{pos}
use Rattle.model.specs.declared.generator.Generator.{Generator}
use Rattle.model.specs.Instance.{Instance, Schedule}
use Rattle.model.specs.Rules.{if_on, statuses, keeps}
use Rattle.model.specs.Cost.{row_cost, cost}
use Rattle.model.proofs.Integers.{ltZ→nat}
use Rattle.source.specs.Source.{Σ₁, downtime, Fifteen, Printed15, Charges, Costs, objective, u_row, p_of, u_of}
use Rattle.source.specs.Sentences.{start_cost, stop_cost, printed_cost, surcharges}

-- TD + Tcold = 2, Hsc 10, Csc 20; on or off for k periods before period 1
abbrev unit : Bool → ℕ → Generator
unit b k = record { a = 0; b = 1; c = 0; pL = 1; pU = 9; TU = 1; TD = 1; on = b; since = k; DR = 9; UR = 9; Hsc = 10; Csc = 20; Tcold = 1; Dc = 0; p0 = if_on b 5 }

-- A was on; it is off in 1 and 2, and on in 3
abbrev A : Generator
A = unit true 1

abbrev row_A : List ℕ
row_A = 0 ∷ (0 ∷ (5 ∷ []))

-- B was off for one period; it is off in 1, and on in 2
abbrev B : Generator
B = unit false 1

abbrev row_B : List ℕ
row_B = 0 ∷ (5 ∷ [])

-- ---- after two periods off, TD + Tcold, both start at Hsc in the paper's words and in the model

pub keeps_A : T (keeps A A.on A.since (statuses row_A))
keeps_A = tt

pub down_A : downtime A (u_row row_A) 3 ≡ 2
down_A = refl

pub down_B : downtime B (u_row row_B) 2 ≡ 2
down_B = refl

pub hot_A : start_cost A (u_row row_A) 3 ≡ 10
hot_A = refl

pub hot_B : start_cost B (u_row row_B) 2 ≡ 10
hot_B = refl

-- ---- (15) as printed asks Csc of A, ..

pub printed_A : (cu : ℕ → ℕ) → Printed15 3 A (u_row row_A) cu → 20 ≤ cu 3
printed_A cu H = omega (arith, H 3 (lit< tt) (lit≤ tt))

-- .. so that Hsc breaks it
pub printed_breaks : Printed15 3 A (u_row row_A) (start_cost A (u_row row_A)) → ⊥
printed_breaks H = omega (arith, printed_A (start_cost A (u_row row_A)) H)

-- of B, in period 2, it asks nothing
pub printed_B : Printed15 2 B (u_row row_B) (start_cost B (u_row row_B))
printed_B t l m = absurd (omega arith)

-- (16) asks Csc after three periods off, as the sentence does: two before period 1 and one in it
pub cold16 : (F : Fifteen) (cu cd : ℕ → ℕ) → Charges F 2 (unit false 2) (u_row row_B) cu cd → 20 ≤ cu 2
cold16 F cu cd K = omega (arith, K.eq16 (record { lt = tt }) 2 (lit≤ tt) (record { lt = tt }) (lit≤ tt) (lit≤ tt))

pub cold16_sentence : start_cost (unit false 2) (u_row row_B) 2 ≡ 20
cold16_sentence = refl

-- ---- the same as a problem: demand 0, 0, 5

abbrev PA : Instance
PA = record { periods = 3; demand = 0 ∷ (0 ∷ (5 ∷ [])); spare = 0 ∷ (0 ∷ (0 ∷ [])); units = A ∷ [] }

abbrev s_A : Schedule
s_A = row_A ∷ []

pub cost_A : cost PA s_A ≡ 15
unfolding cost row_cost
cost_A = refl

pub surcharge_A : surcharges PA s_A ≡ 10
unfolding surcharges
surcharge_A = refl

-- with (15) as printed no cu and cd have an objective below 25, and 25 is had
pub printed_cost_A : (cu cd : ℕ → ℕ → ℕ) → Costs Printed15 PA (u_of s_A) cu cd → 25 ≤ objective PA (u_of s_A) (p_of s_A) cu cd
printed_cost_A cu cd K = omega (arith, printed_A (cu 1) K.0.eq15)

pub printed_least_A : objective PA (u_of s_A) (p_of s_A) (λ i. printed_cost A (u_row row_A)) (λ i. stop_cost A (u_row row_A)) ≡ 25
printed_least_A = refl

-- ---- one more period in the sum and in the range of t, too, is no repair

abbrev pub Later15 : Fifteen
Later15 T g u cu = (t : ℕ) → suc (g.TD + g.Tcold) < t → t ≤ T → u t * g.Csc ≤ cu t + Σ₁ (suc (g.TD + g.Tcold)) (λ j. u (t - j)) * g.Csc

-- B, on in 3 only, starts after three periods off, and period 3 is in neither range, (16) ending with 2 and this (15) starting with 4: Hsc would do
pub later_misses : Charges Later15 3 B (u_row row_A) (λ t. 10) (λ t. 0)
later_misses = record {
  eq13 = thirteen;
  eq14 = λ h l. omega arith;
  eq15 = λ t l m. absurd (omega arith);
  eq16 = λ h t l r k m. absurd (omega (arith, ltZ→nat (pos 2) (pos t) r.lt));
  eq18 = λ t l m. omega arith;
  eq19 = λ h l. absurd h.lt;
}
  where
    thirteen : (t : ℕ) → 2 ≤ t → t ≤ 3 → u_row row_A t * 10 ≤ 10 + u_row row_A (t - 1) * 10
    thirteen zero l m = absurd (omega arith)
    thirteen (suc zero) l m = absurd (omega arith)
    thirteen (suc (suc zero)) l m = omega arith
    thirteen (suc (suc (suc zero))) l m = omega arith
    thirteen (suc (suc (suc (suc t)))) l m = absurd (omega arith)

pub later_sentence : start_cost B (u_row row_A) 3 ≡ 20
later_sentence = refl
