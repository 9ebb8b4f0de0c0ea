-- The costs of starts and stops in the paper's words, summed over a row, are the model's: period by period the downtime of the paper is the
-- model's count of periods off.
use mathlib.Core.Path.{◌≡◌, refl, sym, ◌∙◌, ap, ap₂}
use mathlib.Core.Bool.{Bool, true, false}
use mathlib.Core.List.{List, [], ◌∷◌}
use Prim.Native.Nat.{ℕ, zero, suc, ◌+◌, ◌≤◌}
use native.Mathlib.Omega.{arith}
use lib.ListN.{length, length-map}
use Rattle.model.specs.declared.generator.Generator.{Generator}
use Rattle.model.specs.Rules.{on, statuses, spent}
use Rattle.model.specs.Cost.{switch_cost, switch_costs}
use Rattle.source.specs.Source.{Σ₁, bit, from, idle, one_longer, downs, u_row}
use Rattle.source.specs.Sentences.{starting, stopping, start_cost, stop_cost}
use Rattle.source.proofs.Indices.{Σ₁_same}
use Rattle.source.proofs.Stays.{Reads}
use Rattle.source.proofs.Rows.{row_reads}

-- both costs in period t, x 0 being the status before period 1 and d the downtime then
abbrev charged : Generator → ℕ → (ℕ → ℕ) → ℕ → ℕ
charged g d x zero = 0
charged g d x (suc t) = starting g (x t) (downs d x (suc t)) (x (suc t)) + stopping g (x t) (x (suc t))

-- ---- a period later

downs_shift : (d : ℕ) (x : ℕ → ℕ) (t : ℕ) → downs d x (suc (suc t)) ≡ downs (one_longer (x 1) d) (λ t. x (suc t)) (suc t)
downs_shift d x zero = refl
downs_shift d x (suc t) = ap (one_longer (x (suc (suc t)))) (downs_shift d x t)

charged_shift : (g : Generator) (d : ℕ) (x : ℕ → ℕ) (t : ℕ) → 1 ≤ t → charged g d x (suc t) ≡ charged g (one_longer (x 1) d) (λ t. x (suc t)) t
charged_shift g d x zero l = absurd (omega arith)
charged_shift g d x (suc t) l =
    ap (λ (k : ℕ). starting g (x (suc t)) k (x (suc (suc t))) + stopping g (x (suc t)) (x (suc (suc t)))) (downs_shift d x t)

-- ---- in one period, and in all

first_charge : (g : Generator) (b e : Bool) (k : ℕ) → starting g (bit b) (idle b k) (bit e) + stopping g (bit b) (bit e) ≡ switch_cost g b k e
first_charge g true true k = refl
first_charge g true false k = omega arith
first_charge g false true k = omega arith
first_charge g false false k = refl

idle_next : (b e : Bool) (k : ℕ) → one_longer (bit e) (idle b k) ≡ idle e (spent b k e)
idle_next b true k = refl
idle_next true false k = refl
idle_next false false k = refl

charges_are : (g : Generator) (b : Bool) (k : ℕ) (run : List Bool) (x : ℕ → ℕ) → x 0 ≡ bit b → Reads x run
    → Σ₁ (length run) (charged g (idle b k) x) ≡ switch_costs g b k run
charges_are g b k [] x e r = refl
charges_are g b k (d ∷ run) x e r =
    ap₂ ◌+◌ first
    (Σ₁_same (length run) (λ t. charged g (idle b k) x (suc t)) (charged g (one_longer (x 1) (idle b k)) (λ t. x (suc t)))
    (λ t l m. charged_shift g (idle b k) x t l)
    ∙ ap (λ (z : ℕ). Σ₁ (length run) (charged g z (λ t. x (suc t)))) (ap (λ (z : ℕ). one_longer z (idle b k)) one ∙ idle_next b d k)
    ∙ charges_are g d (spent b k d) run (λ t. x (suc t)) one (λ t l. r (suc t) (omega arith)))
  where
    one : x 1 ≡ bit d
    one = r 0 (omega arith)

    first : starting g (x 0) (idle b k) (x 1) + stopping g (x 0) (x 1) ≡ switch_cost g b k d
    first = rw (e, one) (first_charge g b d k)

-- ---- of a row

downs_from : (g : Generator) (d : ℕ) (u : ℕ → ℕ) (t : ℕ) → downs d (from g u) (suc t) ≡ downs d u (suc t)
downs_from g d u zero = refl
downs_from g d u (suc t) = ap (one_longer (u (suc t))) (downs_from g d u t)

charged_is : (g : Generator) (u : ℕ → ℕ) (t : ℕ) → start_cost g u t + stop_cost g u t ≡ charged g (idle g.on g.since) (from g u) t
charged_is g u zero = refl
charged_is g u (suc t) =
    ap (λ (k : ℕ). starting g (from g u t) k (u (suc t)) + stopping g (from g u t) (u (suc t))) (sym (downs_from g (idle g.on g.since) u t))

pub switch_costs_are : (g : Generator) (r : List ℕ)
    → Σ₁ (length r) (λ t. start_cost g (u_row r) t + stop_cost g (u_row r) t) ≡ switch_costs g g.on g.since (statuses r)
switch_costs_are g r =
    Σ₁_same (length r) (λ t. start_cost g (u_row r) t + stop_cost g (u_row r) t) (charged g (idle g.on g.since) (from g (u_row r)))
    (λ t l m. charged_is g (u_row r) t)
    ∙ rw (← length-map r on) (charges_are g g.on g.since (statuses r) (from g (u_row r)) refl (row_reads g r))
