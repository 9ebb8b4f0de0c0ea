-- Cost minus bound fits an i64 where both are small, and what a sound docket holds is small.
use Rattle.std.specs.Prelude.{None, Option, Some, is_some, not}
use mathlib.Core.Path.{◌≡◌, refl}
use mathlib.Core.Bool.{Bool, true, false, cond}
use Prim.Native.Nat.{ℕ, zero, suc, ◌-◌, ◌<◌}
use native.Mathlib.Omega.{arith}
use lib.Dec.{ltb}
use lib.IntN.{ℤ, pos, negsuc, ◌-ℤ◌}
use lib.Signed.{mag}
use mir.Syntax.{w64}
use mir.Val.{SFits}
use borrow.Author.Tests.{ltb-true}
use Rattle.decimal.proofs.Digits.{and_true}
use Rattle.model.specs.declared.arrays.Problem.{Problem}
use Rattle.model.specs.Held.{valid_problem}
use Rattle.docket.specs.declared.Docket.{Docket}
use Rattle.docket.specs.declared.held.Held.{Held}
use Rattle.writer.specs.Written.{figure_of}
use Rattle.docket.specs.declared.held.CostBy.{CostBy}
use Rattle.docket.specs.declared.held.BoundBy.{BoundBy}
use Rattle.docket.specs.declared.held.HeldBound.{HeldBound}
use Rattle.docket.specs.declared.held.HeldBound.TheVariants as bound
use Rattle.docket.specs.Docket.{size_limit, small_number, small_cost, small_bound, no_cost, no_bound, sound_by, sound}
use Rattle.docket.specs.Report.{gap_shown}

-- ---- the difference

pub small_size : (z : ℤ) → small_number z ≡ true → mag z < size_limit
small_size (pos n) e = ltb-true n size_limit e
small_size (negsuc n) e = ltb-true n size_limit (and_true (ltb n size_limit) true e).0

pub gap_fits : (n : ℕ) (z : ℤ) → n < size_limit → small_number z ≡ true → SFits w64 (pos n -ℤ z)
gap_fits n (pos zero) h e = record { sfits = omega arith }
gap_fits n (pos (suc b)) h e = go (ltb n (suc b)) (small_size (pos (suc b)) e)
  where
    go : (t : Bool) → suc b < size_limit → SFits w64 (cond t (negsuc (suc b - suc n)) (pos (n - suc b)))
    go true k = record { sfits = omega arith }
    go false k = record { sfits = omega arith }
gap_fits n (negsuc b) h e = record { sfits = omega (arith, small_size (negsuc b) e) }

-- ---- where both are numbers

module _ (h : Option CostBy) (c : CostBy) (e : h ≡ Some c) where
  pub cost_below : small_cost h ≡ true → c.cost < size_limit
  cost_below t = ltb-true c.cost size_limit (rw e at t)

  module _ (k : HeldBound) (b : BoundBy) (f : k ≡ bound.Number b) where
    pub bound_between : small_bound k ≡ true → small_number b.value ≡ true
    bound_between t = rw f at t

    pub gap_of_numbers : figure_of (pos c.cost -ℤ b.value) ≡ gap_shown h k
    gap_of_numbers = rw (e, f) refl

-- ---- what a sound docket holds is small

nothing_small : (c : Option CostBy) (b : HeldBound) → no_cost c ≡ true → no_bound b ≡ true → (small_cost c ≡ true) × (small_bound b ≡ true)
nothing_small None bound.Nothing e f = (refl, refl)
nothing_small None (bound.Number n) e f = absurd (let z : ◌≡◌ {A = ℕ} 0 1 = cc in omega arith)
nothing_small None (bound.Never n) e f = (refl, refl)
nothing_small (Some n) b e f = absurd (let z : ◌≡◌ {A = ℕ} 0 1 = cc in omega arith)

small_by : (known : Bool) (p : Problem) (h : Held) → sound_by known p h ≡ true → (small_cost h.cost ≡ true) × (small_bound h.bound ≡ true)
small_by true p h e = and_true (small_cost h.cost) (small_bound h.bound) (and_true (valid_problem p) _ e).1
small_by false p h e = let n = and_true (no_cost h.cost) (no_bound h.bound) e in nothing_small h.cost h.bound n.0 n.1

pub sound_small : (d : Docket) → sound d ≡ true → (small_cost d.held.cost ≡ true) × (small_bound d.held.bound ≡ true)
unfolding sound
sound_small d e = small_by d.known d.problem d.held e

pub no_cost_is : (c : Option CostBy) → no_cost c ≡ not (is_some c)
no_cost_is None = refl
no_cost_is (Some n) = refl
