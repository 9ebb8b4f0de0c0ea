-- Where the arrays of a problem stand in its numbers, before whatever follows them.
use mathlib.Core.Path.{◌≡◌, refl, sym, ap, ◌∙◌}
use mathlib.Core.List.{List, [], ◌∷◌, ◌++◌, append_assoc}
use Prim.Native.Nat.{ℕ, zero, suc, ◌+◌, ◌*◌, ◌<◌}
use native.Mathlib.Omega.{arith}
use lib.ListN.{length, get_or, drop, length-append}
use lib.Seq.{drop_at, drop-drop}
use Rattle.model.specs.declared.generator.Generator.{Generator}
use Rattle.model.specs.declared.arrays.Problem.{Problem}
use Rattle.model.specs.Held.{blank_generator}
use Rattle.layout.specs.Numbers.{generator_numbers, all_numbers, laid_out}

pub all_long : (gs : List Generator) → length (all_numbers gs) ≡ length gs * 16
all_long [] = refl
all_long (g ∷ gs) = omega (arith, all_long gs, length-append (generator_numbers g) (all_numbers gs))

all_from : (gs : List Generator) (l : List ℕ) (u : ℕ) → u < length gs
    → drop (u * 16) (all_numbers gs ++ l) ≡ generator_numbers (get_or gs u blank_generator) ++ (all_numbers (drop (suc u) gs) ++ l)
all_from [] l u h = absurd (omega arith)
all_from (g ∷ gs) l zero h = refl
all_from (g ∷ gs) l (suc u) h =
    let e : suc u * 16 ≡ 16 + u * 16 = omega arith in
    rw e (sym (drop-drop (u * 16) 16 (all_numbers (g ∷ gs) ++ l)) ∙ all_from gs l u (omega arith))

module _ (p : Problem) (demand_long : length p.demand ≡ 48) (spare_long : length p.spare ≡ 48) (units_long : length p.generators ≡ 32) where
  pub laid_long : length (laid_out p) ≡ 610
  unfolding laid_out
  laid_long =
      omega (
        arith,
        demand_long,
        spare_long,
        units_long,
        all_long p.generators,
        length-append p.spare (all_numbers p.generators),
        length-append p.demand (p.spare ++ all_numbers p.generators),
      )

  -- what stands from 2 on, from 50 on, from 98 on, and from each generator on
  module _ (l : List ℕ) where
    pub from_demand : drop 2 (laid_out p ++ l) ≡ p.demand ++ (p.spare ++ (all_numbers p.generators ++ l))
    unfolding laid_out
    from_demand = simp append_assoc

    pub from_spare : drop 50 (laid_out p ++ l) ≡ p.spare ++ (all_numbers p.generators ++ l)
    from_spare =
        sym (drop-drop 48 2 (laid_out p ++ l)) ∙ ap (drop 48) from_demand ∙ drop_at p.demand (p.spare ++ (all_numbers p.generators ++ l)) 48 demand_long

    from_generators : drop 98 (laid_out p ++ l) ≡ all_numbers p.generators ++ l
    from_generators =
        sym (drop-drop 48 50 (laid_out p ++ l)) ∙ ap (drop 48) from_spare ∙ drop_at p.spare (all_numbers p.generators ++ l) 48 spare_long

    pub from_unit : (u : ℕ) → u < 32
        → drop (98 + u * 16) (laid_out p ++ l) ≡ generator_numbers (get_or p.generators u blank_generator) ++ (all_numbers (drop (suc u) p.generators) ++ l)
    from_unit u h =
        sym (drop-drop (u * 16) 98 (laid_out p ++ l)) ∙ ap (drop (u * 16)) from_generators ∙ all_from p.generators l u (omega (arith, units_long))
