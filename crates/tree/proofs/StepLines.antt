-- The lines of a ramp leaf's units: one unit more at the end, and that they pass one after the other, as far as the last.
use mathlib.Core.Path.{◌≡◌, refl, sym, ap, subst, ◌∙◌}
use mathlib.Core.Bool.{Bool, false, cond}
use mathlib.Core.List.{List, [], ◌∷◌, ◌++◌, map, append_assoc, append-nil}
use mathlib.Core.Logic.{◌⊎◌, inl, inr}
use Prim.Native.Nat.{ℕ, zero, suc, pred, ◌+◌, ◌*◌, ◌≤◌, ◌<◌}
use native.Mathlib.Omega.{arith}
use lib.Dec.{eqb}
use lib.ListN.{length, length-append}
use borrow.Author.Tests.{ne_eqb, eq-eqb}
use Rattle.model.specs.Instance.{Instance}
use Rattle.model.specs.Ranges.{All}
use Rattle.model.specs.Above.{Above}
use Rattle.model.specs.Ramps.{RampPrices}
use Rattle.model.specs.Tree.{ramp, Multipliers, StepMultipliers, ramped, GoodRamps}
use Rattle.text.specs.Lines.{Line, ended}
use Rattle.text.specs.Rendering.{plain_line}
use Rattle.text.specs.Tests.{Test, None, Passed, none_yet, one_more}
use Rattle.text.proofs.Accepted.{Fits, rendered_line, rendered_numbers}
use Rattle.tree.specs.Rendering.{rampprice_key, reserve_key, up_key, down_key, step_lines, leaf_lines}
use Rattle.tree.specs.Places.{Part, ramp_priced, with_steps, with_ups}
use Rattle.tree.specs.NodeLines.{is_last}
use Rattle.tree.specs.Refusals.{part_form}
use Rattle.tree.specs.Course.{Pending, Due, part_due, after_leaf, after_steps, after_numbers, after_part, next_due}
use Rattle.tree.specs.Acceptance.{Bounded}
use Rattle.tree.proofs.Lines.{many_fit, multipliers_fit}

-- ---- one unit more

pub one_longer : (k : List RampPrices) (x : RampPrices) → length (k ++ (x ∷ [])) ≡ suc (length k)
one_longer k x = omega (arith, length-append k (x ∷ []))

pub step_lines_both : (k m : List RampPrices) → step_lines (k ++ m) ≡ step_lines k ++ step_lines m
step_lines_both [] m = refl
step_lines_both (x ∷ k) m = ap (λ (ls : List (List ℕ)). plain_line up_key x.up ∷ plain_line down_key x.down ∷ ls) (step_lines_both k m)

pub steps_long : (k : List RampPrices) → length (step_lines k) ≡ 2 * length k
steps_long [] = refl
steps_long (x ∷ k) = omega (arith, steps_long k)

-- the lines of a ramp leaf, and one unit's two behind them
pub steps_behind : (q s : List ℕ) (k : List RampPrices) (x : RampPrices)
    → leaf_lines (ramp q s (k ++ (x ∷ []))) ≡ (leaf_lines (ramp q s k) ++ (plain_line up_key x.up ∷ [])) ++ (plain_line down_key x.down ∷ [])
steps_behind q s k x =
    let u = plain_line up_key x.up in
    let d = plain_line down_key x.down in
    let z = leaf_lines (ramp q s k) in
    let e : leaf_lines (ramp q s (k ++ (x ∷ []))) ≡ z ++ (u ∷ d ∷ []) =
    ap (λ (ls : List (List ℕ)). plain_line rampprice_key q ∷ plain_line reserve_key s ∷ ls) (step_lines_both k (x ∷ [])) in
    e ∙ sym (append_assoc z (u ∷ []) (d ∷ []))

-- where a unit has lines of its own there are two periods
pub two_periods : (P : Instance) → 1 ≤ P.periods → 0 < ramped P → 1 ≤ pred P.periods
two_periods P some h = go P.periods some h
  where
    go : (n : ℕ) → 1 ≤ n → 0 < cond (eqb n 1) 0 (length P.units) → 1 ≤ pred n
    go zero s h = absurd (omega arith)
    go (suc zero) s h = absurd (omega arith)
    go (suc (suc n)) s h = omega arith

-- ---- lines that pass, whatever the tests: each of them does where it is not the leaf's last, and where X holds the last does too

module _ (P : Instance) (F : Bounded) (A : Above) (ps : List Pending) (tests' : Due → Line → List Test) (X : Type 0)
    (passes : (p : Part) (vs : List ℕ) → Fits (part_form P p) false vs → (is_last P p ≡ false) ⊎ X → None (tests' (part_due F A p ps) (rendered_line (part_form P p) false vs))) where
  abbrev Goes : Due → List Line → Due → Type 0
  Goes s ls s' = Passed tests' (next_due P) s ls s'

  -- one line
  part_more : (p : Part) (vs : List ℕ) → Fits (part_form P p) false vs → (is_last P p ≡ false) ⊎ X → {ls : List Line} {s : Due}
      → Goes (after_numbers P F A p ps vs) ls s → Goes (part_due F A p ps) (rendered_line (part_form P p) false vs ∷ ls) s
  unfolding next_due after_part
  part_more p vs w o g = one_more (passes p vs w o) (ap (after_numbers P F A p ps) (rendered_numbers (part_form P p) false vs w)) g

  -- where not all units have their lines, the next one's are due; where all have, the leaf is read
  pub more_due : (q s : List ℕ) (k : List RampPrices) → length k < ramped P → after_steps P F A ps q s k ≡ part_due F A (with_steps q s k) ps
  more_due q s k h = ap (λ (b : Bool). cond b (after_leaf P F A ps (ramp q s k)) (part_due F A (with_steps q s k) ps)) (ne_eqb (ramped P) (length k) (λ e. omega (arith, h, e)))

  pub none_due : (q s : List ℕ) (k : List RampPrices) → length k ≡ ramped P → after_steps P F A ps q s k ≡ after_leaf P F A ps (ramp q s k)
  none_due q s k e = ap (λ (b : Bool). cond b (after_leaf P F A ps (ramp q s k)) (part_due F A (with_steps q s k) ps)) (eq-eqb (ramped P) (length k) (sym e))

  -- the lines of the units m, after those of the units k
  pub steps_pass : 1 ≤ P.periods → (q s : List ℕ) (m k : List RampPrices) → All (λ x. StepMultipliers P x.up × StepMultipliers P x.down) m
      → length k + length m ≤ ramped P → (length k + length m < ramped P) ⊎ X
      → Goes (after_steps P F A ps q s k) (map ended (step_lines m)) (after_steps P F A ps q s (k ++ m))
  steps_pass some q s [] k g h o = subst (λ (j : List RampPrices). Goes (after_steps P F A ps q s k) [] (after_steps P F A ps q s j)) (sym (append-nil k)) none_yet
  steps_pass some q s (x ∷ m) k g h o =
      let two = two_periods P some (omega arith) in
      let k' = k ++ (x ∷ []) in
      let long = one_longer k x in
      let rest = steps_pass some q s m k' g.1 (omega (arith, long)) (shorter o) in
      rw (more_due q s k (omega arith))
      (part_more (with_steps q s k) x.up (many_fit (pred P.periods) up_key two x.up g.0.0) (inl refl)
      (part_more (with_ups q s k x.up) x.down (many_fit (pred P.periods) down_key two x.down g.0.1) (last o)
      (subst (λ (j : List RampPrices). Goes (after_steps P F A ps q s k') (map ended (step_lines m)) (after_steps P F A ps q s j)) (append_assoc k (x ∷ []) m) rest)))
    where
      shorter : (length k + length (x ∷ m) < ramped P) ⊎ X → (length (k ++ (x ∷ [])) + length m < ramped P) ⊎ X
      shorter (inl l) = inl (omega (arith, one_longer k x, l))
      shorter (inr y) = inr y

      last : (length k + length (x ∷ m) < ramped P) ⊎ X → (eqb (ramped P) (suc (length k)) ≡ false) ⊎ X
      last (inl l) = inl (ne_eqb (ramped P) (suc (length k)) (λ e. omega (arith, l, e)))
      last (inr y) = inr y

  -- from the reserve line on, those of as many units as are said
  pub reserve_pass : 1 ≤ P.periods → (q s : List ℕ) (k : List RampPrices) → Multipliers P s → All (λ x. StepMultipliers P x.up × StepMultipliers P x.down) k
      → length k ≤ ramped P → (length k < ramped P) ⊎ X
      → Goes (part_due F A (ramp_priced q) ps) (map ended (plain_line reserve_key s ∷ step_lines k)) (after_steps P F A ps q s k)
  reserve_pass some q s k ms g h o =
      part_more (ramp_priced q) s (multipliers_fit P reserve_key some s ms) (first o) (steps_pass some q s k [] g (omega arith) (all o))
    where
      first : (length k < ramped P) ⊎ X → (eqb (ramped P) 0 ≡ false) ⊎ X
      first (inl l) = inl (ne_eqb (ramped P) 0 (λ e. omega (arith, l, e)))
      first (inr y) = inr y

      all : (length k < ramped P) ⊎ X → (length {A = RampPrices} [] + length k < ramped P) ⊎ X
      all (inl l) = inl (omega (arith, l))
      all (inr y) = inr y

  -- the whole leaf's
  pub ramp_passes : 1 ≤ P.periods → (q s : List ℕ) (l : List RampPrices) → Multipliers P s → GoodRamps P l → X
      → Goes (part_due F A (ramp_priced q) ps) (map ended (plain_line reserve_key s ∷ step_lines l)) (after_leaf P F A ps (ramp q s l))
  ramp_passes some q s l ms g y =
      subst (λ (z : Due). Goes (part_due F A (ramp_priced q) ps) (map ended (plain_line reserve_key s ∷ step_lines l)) z) (none_due q s l g.0)
      (reserve_pass some q s l ms g.1 (omega (arith, g.0)) (inr y))
