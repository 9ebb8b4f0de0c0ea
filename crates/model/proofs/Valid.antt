-- The test of a problem in arrays holds exactly where the arrays hold a well-formed problem: each part of the test is a range of document 01,
-- and the first n of an array that has as many are n.
use mathlib.Core.Path.{◌≡◌}
use mathlib.Core.Bool.{Bool, true, ◌&&◌}
use mathlib.Core.Logic.{◌↔◌}
use Prim.Native.Nat.{◌≤◌}
use native.Mathlib.Omega.{arith}
use lib.Dec.{T}
use lib.ListN.{length, take, length-take}
use lib.Seq.{length-take-le}
use Rattle.model.specs.declared.arrays.Problem.{Problem}
use Rattle.model.specs.Instance.{Instance}
use Rattle.model.specs.Ranges.{All, Between, GoodUnit, GoodLoad, WellFormed, between, every, good_generator, load_in_range}
use Rattle.model.specs.Held.{view, held, Valid, valid_problem}
use Rattle.model.proofs.Tests.{T_true, true_T}
use Rattle.model.proofs.RangeTests.{and_is, between_is, every_is, load_is, generator_is}
use Rattle.model.proofs.Held.{held_valid}

-- the parts of the test
abbrev Ranges : Problem → Type 0
Ranges p =
    Between 1 p.periods 48 × (Between 1 p.units 32 × (All GoodLoad (take p.periods p.demand)
    × (All GoodLoad (take p.periods p.spare) × All GoodUnit (take p.units p.generators))))

five_are : (a b c d e : Bool) {A B C D E : Type 0} → T a ↔ A → T b ↔ B → T c ↔ C → T d ↔ D → T e ↔ E
    → T (a && (b && (c && (d && e)))) ↔ (A × (B × (C × (D × E))))
five_are a b c d e f g h i j = and_is a (b && (c && (d && e))) f (and_is b (c && (d && e)) g (and_is c (d && e) h (and_is d e i j)))

parts_are : (p : Problem) → T (valid_problem p) ↔ Ranges p
unfolding valid_problem
parts_are p =
    five_are (between 1 p.periods 48) (between 1 p.units 32) (every load_in_range (take p.periods p.demand))
    (every load_in_range (take p.periods p.spare)) (every good_generator (take p.units p.generators))
    (between_is 1 p.periods 48) (between_is 1 p.units 32) (every_is load_in_range GoodLoad load_is (take p.periods p.demand))
    (every_is load_in_range GoodLoad load_is (take p.periods p.spare))
    (every_is good_generator GoodUnit generator_is (take p.units p.generators))

-- at most 48 periods and 32 units
pub valid_sizes : (p : Problem) → valid_problem p ≡ true → (p.periods ≤ 48) × (p.units ≤ 32)
valid_sizes p e = let r = (parts_are p).0 (true_T (valid_problem p) e) in (r.0.1, r.1.0.1)

valid_passes : (p : Problem) → Valid p → valid_problem p ≡ true
unfolding view
valid_passes p v =
    let W = v.well_formed in
    T_true (valid_problem p) ((parts_are p).1 (W.periods_in, ((least, v.units_fit), (W.demand_in, (W.spare_in, W.units_good)))))
  where
    least : 1 ≤ p.units
    least = let k = v.well_formed.units_in.0 in omega (arith, simp length-take at k)

-- in arrays of the struct's lengths
module _ (p : Problem) (demand : length p.demand ≡ 48) (spare : length p.spare ≡ 48) (generators : length p.generators ≡ 32) where
  passes_valid : valid_problem p ≡ true → Valid p
  unfolding view
  passes_valid e =
      let r = (parts_are p).0 (true_T (valid_problem p) e) in
      let units : length (take p.units p.generators) ≡ p.units = length-take-le p.units p.generators (omega arith) in
      record {
        units_fit = r.1.0.1;
        well_formed = record {
          periods_in = r.0;
          units_in = rw units r.1.0;
          demand_long = length-take-le p.periods p.demand (omega arith);
          demand_in = r.1.1.0;
          spare_long = length-take-le p.periods p.spare (omega arith);
          spare_in = r.1.1.1.0;
          units_good = r.1.1.1.1;
        };
      }

  pub valid_is : (valid_problem p ≡ true) ↔ Valid p
  valid_is = (passes_valid, valid_passes p)

-- the arrays that hold a well-formed problem pass
pub held_passes : (P : Instance) → WellFormed P → valid_problem (held P) ≡ true
held_passes P W = valid_passes (held P) (held_valid P W)
