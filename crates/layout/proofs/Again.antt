-- A problem laid out is had again, with what stands past its periods and units: each array is read from its place.
use mathlib.Core.Path.{◌≡◌, refl, sym, ap, ◌∙◌}
use mathlib.Core.Bool.{Bool, true, false, not, cond}
use mathlib.Core.List.{List, [], ◌++◌, map, map-append, append-nil, append_assoc}
use Prim.Native.Nat.{ℕ, suc, ◌-◌, ◌≤◌, ◌<◌}
use native.Mathlib.Omega.{arith}
use lib.Dec.{eqb}
use lib.ListN.{length, get_or, take, drop, replicate, length-append, length-map, length-replicate}
use lib.Seq.{take_at, drop_at, drop-drop, ext_get_or}
use Rattle.model.specs.declared.generator.Generator.{Generator}
use Rattle.model.specs.declared.arrays.Problem.{Problem}
use Rattle.model.specs.Held.{view, pad, Valid, blank_generator}
use Rattle.layout.specs.Numbers.{generator_numbers, all_numbers, laid_out, ranks_of, ranked_out, generator_of, generator_in, generators_in, problem_in, instance_in, Laid}
use Rattle.layout.specs.Ranks.{pU_of, place_of, ranked}
use Rattle.layout.proofs.Readings.{generators_long, generators_at, instance_is}
use Rattle.layout.proofs.Ranks.{ranked_long}
use Rattle.layout.proofs.Places.{laid_long, from_demand, from_spare, from_unit}

status_back : (b : Bool) → not (eqb (cond b 1 0) 0) ≡ b
status_back true = refl
status_back false = refl

generator_back : (g : Generator) (l : List ℕ) → generator_of (generator_numbers g ++ l) ≡ g
generator_back g l = rw (status_back g.on) refl

module _ (p : Problem) (demand_long : length p.demand ≡ 48) (spare_long : length p.spare ≡ 48) (units_long : length p.generators ≡ 32) where
  module _ (l : List ℕ) where
    unit_again : (u : ℕ) → u < 32 → generator_in (laid_out p ++ l) u ≡ get_or p.generators u blank_generator
    unit_again u h =
        ap generator_of (from_unit p demand_long spare_long units_long l u h)
        ∙ generator_back (get_or p.generators u blank_generator) (all_numbers (drop (suc u) p.generators) ++ l)

    generators_again : generators_in (laid_out p ++ l) 0 32 ≡ p.generators
    generators_again =
        let v = laid_out p ++ l in
        ext_get_or blank_generator (generators_in v 0 32) p.generators (generators_long v 0 32 ∙ sym units_long)
        (λ u h. let less : u < 32 = omega (arith, generators_long v 0 32) in generators_at v 32 u less ∙ unit_again u less)

    -- the problem, before whatever follows its numbers
    pub problem_again : problem_in (laid_out p ++ l) ≡ p
    unfolding problem_in laid_out
    problem_again =
        rw (
          generators_again,
          from_spare p demand_long spare_long units_long l,
          from_demand p demand_long spare_long units_long l,
          take_at p.demand (p.spare ++ (all_numbers p.generators ++ l)) 48 demand_long,
          take_at p.spare (all_numbers p.generators ++ l) 48 spare_long,
        ) refl

  module _ (valid : Valid p) where
    pub laid_is : (l : List ℕ) → instance_in (laid_out p ++ l) ≡ view p
    unfolding laid_out view
    laid_is l = instance_is (laid_out p ++ l) valid.well_formed.periods_in.1 valid.units_fit ∙ ap view (problem_again l)

    -- with what the ranks are of behind it, it is well-formed and its units are in order
    pub ranked_is : instance_in (ranked_out p) ≡ view p
    unfolding ranked_out
    ranked_is = laid_is (map pU_of (ranks_of p) ++ map (place_of p.periods) (ranks_of p))

    same_periods : (view p).periods ≡ p.periods
    unfolding view
    same_periods = refl

    few : length (view p).units ≤ 32
    few = valid.well_formed.units_in.1

    ranks_long : length (ranks_of p) ≡ 32
    unfolding pad
    ranks_long =
        let R = ranked (view p).units in
        length-append R (replicate (32 - length R) 0) ∙ omega (arith, few, length-replicate {A = ℕ} (32 - length R) 0, ranked_long (view p).units)

    -- of the first ranks, as many as there are units
    of_first : (f : ℕ → ℕ) (l : List ℕ) → take (length (view p).units) (map f (ranks_of p) ++ l) ≡ map f (ranked (view p).units)
    unfolding pad
    of_first f l =
        let R = ranked (view p).units in
        let zeros = replicate {A = ℕ} (32 - length R) 0 in
        ap (take (length (view p).units)) (ap (λ (k : List ℕ). k ++ l) (map-append f R zeros) ∙ append_assoc (map f R) (map f zeros) l)
        ∙ take_at (map f R) (map f zeros ++ l) (length (view p).units) (length-map R f ∙ ranked_long (view p).units)

    pub laid : Laid (ranked_out p)
    unfolding ranked_out
    laid =
        let sizes = map pU_of (ranks_of p) in
        let places = map (place_of p.periods) (ranks_of p) in
        let long = laid_long p demand_long spare_long units_long in
        let sizes_long : length sizes ≡ 32 = length-map (ranks_of p) pU_of ∙ ranks_long in
        let places_long : length places ≡ 32 = length-map (ranks_of p) (place_of p.periods) ∙ ranks_long in
        record {
          long = length-append (laid_out p) (sizes ++ places) ∙ omega (arith, long, length-append sizes places, sizes_long, places_long);
          well_formed = rw ranked_is valid.well_formed;
          sizes = rw (ranked_is, drop_at (laid_out p) (sizes ++ places) 610 long) (of_first pU_of places);
          places =
              rw (ranked_is, sym (drop-drop 32 610 (laid_out p ++ (sizes ++ places))), drop_at (laid_out p) (sizes ++ places) 610 long, drop_at sizes places 32 sizes_long)
              (ap (take (length (view p).units)) (sym (append-nil places)) ∙ of_first (place_of p.periods) []
              ∙ ap (λ (n : ℕ). map (place_of n) (ranked (view p).units)) (sym same_periods));
        }
