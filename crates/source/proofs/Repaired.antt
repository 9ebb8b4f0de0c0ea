-- (15) repaired says what its sentence says: with the status before period 1 as u 0, a sum of TD + Tcold + 1 statuses is 0 exactly if the
-- downtime is more than TD + Tcold.
use mathlib.Core.Path.{◌≡◌, refl, sym, ◌∙◌, ap}
use mathlib.Core.Bool.{Bool, true, false}
use mathlib.Core.Logic.{◌↔◌}
use Prim.Native.Nat.{ℕ, zero, suc, ◌+◌, ◌-◌, ◌≤◌, ◌<◌}
use native.Mathlib.Omega.{arith}
use Rattle.model.specs.declared.generator.Generator.{Generator}
use Rattle.model.specs.Instance.{Instance, Schedule}
use Rattle.model.specs.Ranges.{WellFormed}
use Rattle.model.specs.Rules.{MeetsPrinted}
use Rattle.model.specs.Cost.{cost}
use Rattle.source.specs.Source.{Bits, Σ₁, bit, from, idle, one_longer, downs, downtime, Repaired15, Sentence15, p_of}
use Rattle.source.specs.Sentences.{start_cost, stop_cost}
use Rattle.source.specs.Least.{LeastWith}
use Rattle.source.proofs.Indices.{Σ₁_same}
use Rattle.source.proofs.Downtime.{sum→down, down→sum}
use Rattle.source.proofs.Charges.{charges_map, cold_if}
use Rattle.source.proofs.Objective.{LeastStart, sentence_least}
use Rattle.source.proofs.CostOfRows.{cost_value, least_is}

-- u a period later, with the status before period 1 as its first
abbrev later : Generator → (ℕ → ℕ) → ℕ → ℕ
later g u zero = 0
later g u (suc t) = from g u t

-- counted from a period earlier, the downtime is the same
downs_later : (g : Generator) (u : ℕ → ℕ) (d t : ℕ) → one_longer (bit g.on) d ≡ idle g.on g.since
    → downs d (later g u) (suc (suc t)) ≡ downtime g u (suc t)
downs_later g u d zero e = e
downs_later g u d (suc t) e = ap (one_longer (u (suc t))) (downs_later g u d t e)

earlier : (b : Bool) (k : ℕ) → 1 ≤ k → one_longer (bit b) (k - 1) ≡ idle b k
earlier true k l = refl
earlier false k l = omega arith

repaired_sum : (g : Generator) (u : ℕ → ℕ) → 1 ≤ g.since → (t : ℕ) → g.TD + g.Tcold < t
    → (Σ₁ (suc (g.TD + g.Tcold)) (λ j. from g u (t - j)) ≡ 0) ↔ (g.TD + g.Tcold < downtime g u t)
repaired_sum g u f zero l = absurd (omega arith)
repaired_sum g u f (suc t) l = (
  λ z. omega (arith, is, sum→down d (later g u) (suc t) (suc N) (omega arith) (sums ∙ z)),
  λ h. sym sums ∙ down→sum d (later g u) (suc t) (suc N) (omega arith) (omega (arith, is)),
)
  where
    N : ℕ
    N = g.TD + g.Tcold

    d : ℕ
    d = g.since - 1

    is : downs d (later g u) (suc (suc t)) ≡ downtime g u (suc t)
    is = downs_later g u d t (earlier g.on g.since f)

    sums : Σ₁ (suc N) (λ j. later g u (suc (suc t) - j)) ≡ Σ₁ (suc N) (λ j. from g u (suc t - j))
    sums = Σ₁_same (suc N) (λ j. later g u (suc (suc t) - j)) (λ j. from g u (suc t - j))
        (λ j i m. let q : suc (suc t) - j ≡ suc (suc t - j) = omega arith in ap (later g u) q)

pub repaired_is : (n : ℕ) (g : Generator) (u cu : ℕ → ℕ) → 1 ≤ g.since → Bits n u → Repaired15 n g u cu ↔ Sentence15 n g u cu
repaired_is n g u cu f bits = (
  λ R t l m e h. omega (arith, rw (e, (repaired_sum g u f t l).1 h) at (R t l m)),
  λ S t l m. cold_if (u t) (Σ₁ (suc (g.TD + g.Tcold)) (λ j. from g u (t - j))) g.Csc (cu t) (bits t (omega arith) m)
      (λ e z. S t l m e ((repaired_sum g u f t l).0 z)),
)

-- so its least costs of starts are those of the sentence
pub repaired_least : LeastStart Repaired15 start_cost
repaired_least = record {
  allowed = λ n g u R bits. charges_map Sentence15 Repaired15 n g u (start_cost g u) (stop_cost g u)
      (repaired_is n g u (start_cost g u) R.started bits).1 (sentence_least.allowed n g u R bits);
  below = λ n g u cu cd R bits C. sentence_least.below n g u cu cd R bits
      (charges_map Repaired15 Sentence15 n g u cu cd (repaired_is n g u cu R.started bits).0 C);
  same = sentence_least.same;
}

pub repaired_is_least : (P : Instance) → WellFormed P → (s : Schedule) → MeetsPrinted P s → LeastWith Repaired15 P (p_of s) (cost P s)
repaired_is_least P = least_is Repaired15 start_cost repaired_least P (cost P) (cost_value P)
