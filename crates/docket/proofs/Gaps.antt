-- The gap of a report is never negative: an accepted schedule meets the rules, and an accepted tree's bound is at most the cost of every schedule that does.
use mathlib.Core.Path.{◌≡◌, refl, sym, subst, ◌∙◌}
use mathlib.Core.List.{List}
use mathlib.Core.Option.{Option, none, some}
use Prim.Native.Nat.{ℕ, suc}
use native.Mathlib.Omega.{arith}
use lib.IntN.{ℤ, pos, negsuc, ◌+ℤ◌, ◌-ℤ◌}
use lib.Signed.{◌≤ℤ◌}
use Rattle.model.specs.Instance.{Instance}
use Rattle.model.specs.Figures.{Bound}
use Rattle.std.specs.Prelude.{None as never, Some as number}
use Rattle.model.proofs.Integers.{le→nat, nat→le, +ℤ-nat, -ℤ-nat}
use Rattle.model.proofs.Soundness.{number_sound}
use Rattle.writer.specs.Written.{figure_of}
use Rattle.writer.specs.declared.Figure.TheVariants.{Missing, Minus}
use Rattle.tree.specs.Acceptance.{Bounded}
use Rattle.docket.specs.Verdicts.{Costed, Verdict, schedules, trees, known_at_end}
use Rattle.docket.specs.Texts.{Are}
use Rattle.docket.specs.ReportDue.{gap_between, gap_due, IsCheapest, IsHighest, ReportDue}
use Rattle.docket.proofs.BestSoFar.{first_mem}
use Rattle.docket.proofs.GoodVerdicts.{GoodSchedule, GoodTree, all_mem, Proper}
use Rattle.docket.proofs.Reached.{by_cost, by_bound}
use Rattle.docket.proofs.Determined.{no_first}
use Rattle.docket.proofs.AfterTexts.{proper_then}

-- cost minus bound, where the bound is at most the cost
pub gap_from_zero : (n : ℕ) (z : ℤ) → z ≤ℤ pos n → pos 0 ≤ℤ (pos n -ℤ z)
gap_from_zero n (pos b) h = nat→le (pos 0) (pos n -ℤ pos b) (omega (arith, le→nat (pos b) (pos n) h, -ℤ-nat n b))
gap_from_zero n (negsuc b) h = nat→le (pos 0) (pos n +ℤ pos (suc b)) (omega (arith, +ℤ-nat (pos n) (pos (suc b))))

no_minus : (z : ℤ) (n : ℕ) → pos 0 ≤ℤ z → figure_of z ≡ Minus n → ⊥
unfolding figure_of
no_minus (pos m) n h e = let z : ◌≡◌ {A = ℕ} 0 1 = cc in omega arith
no_minus (negsuc m) n h e = omega (arith, le→nat (pos 0) (negsuc m) h)

missing_no_minus : (n : ℕ) → Missing ≡ Minus n → ⊥
missing_no_minus n e = let z : ◌≡◌ {A = ℕ} 0 1 = cc in omega arith

module _ (P : Instance) (n : ℕ) where
  under_no_minus : (s : Option Costed) (F : Option Bounded) (vs : List Verdict) → IsCheapest s (schedules vs) → IsHighest F (trees vs) → Proper (some P) vs
      → gap_due s F ≡ Minus n
      → ⊥
  under_no_minus none F vs p q W e = missing_no_minus n e
  under_no_minus (some s) none vs p q W e = missing_no_minus n e
  under_no_minus (some s) (some F) vs p q W e = go F.figures.bound refl e
    where
      good : GoodSchedule P s
      good = all_mem (GoodSchedule P) (schedules vs) W.1.0 s (first_mem by_cost s (schedules vs) p)

      its : GoodTree P F
      its = all_mem (GoodTree P) (trees vs) W.1.1 F (first_mem by_bound F (trees vs) q)

      go : (b : Bound) → F.figures.bound ≡ b → gap_between s.cost b ≡ Minus n → ⊥
      go never f e = missing_no_minus n e
      go (number z) f e =
          let below = number_sound P its.its its.holds z (sym its.bound_is ∙ f) s.rows good.meets.printed in
          no_minus (pos s.cost -ℤ z) n (gap_from_zero s.cost z (subst (λ (c : ℕ). z ≤ℤ pos c) (sym good.cost_is) below)) e

-- the gap line of the report that is due after a list shows no minus
pub gap_unsigned : (texts : List (List ℕ)) (vs : List Verdict) → Are none texts vs → (lines : List ℕ) (R : ReportDue vs lines) (n : ℕ)
    → gap_due R.cheapest R.highest ≡ Minus n
    → ⊥
gap_unsigned texts vs are lines R n e =
    go (known_at_end none vs) (proper_then texts vs are) R.cheapest R.is_cheapest e
  where
    go : (o : Option Instance) → Proper o vs → (s : Option Costed) → IsCheapest s (schedules vs) → gap_due s R.highest ≡ Minus n → ⊥
    go none W none p e = missing_no_minus n e
    go none W (some s) p e = no_first by_cost s (schedules vs) p W.0
    go (some P) W s p e = under_no_minus P n s R.highest vs p R.is_highest W e
