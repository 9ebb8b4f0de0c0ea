-- What the problem of a list of numbers has, where it stands in the list.
use mathlib.Core.Path.{◌≡◌, refl, sym, ap, ◌∙◌}
use mathlib.Core.List.{List, ◌∷◌, map}
use Prim.Native.Nat.{ℕ, zero, suc, ◌+◌, ◌-◌, ◌*◌, ◌≤◌, ◌<◌}
use native.Mathlib.Omega.{arith}
use lib.ListN.{length, get_or, take, drop, length-drop}
use lib.Seq.{get_or-take, get_or-drop, take_all, take-take}
use Rattle.model.specs.declared.generator.Generator.{Generator}
use Rattle.model.specs.Instance.{◌at◌}
use Rattle.model.specs.Held.{view, blank_generator}
use Rattle.layout.specs.Ranks.{ranked}
use Rattle.layout.proofs.Ranks.{ranked_long, map_at}
use Rattle.layout.specs.Numbers.{generator_in, generators_in, problem_in, instance_in}

module _ (v : List ℕ) where
  -- the part `&v[k..]` as it is lent
  pub from_whole : (k : ℕ) → take (length v - k) (drop k v) ≡ drop k v
  from_whole k = take_all (length v - k) (drop k v) (omega (arith, length-drop k v))

  pub generators_long : (u n : ℕ) → length (generators_in v u n) ≡ n
  generators_long u zero = refl
  generators_long u (suc n) = ap suc (generators_long (suc u) n)

  generators_from : (u n k : ℕ) → k < n → get_or (generators_in v u n) k blank_generator ≡ generator_in v (u + k)
  generators_from u zero k h = absurd (omega arith)
  generators_from u (suc n) zero h = let e : u ≡ u + 0 = omega arith in ap (λ (i : ℕ). generator_in v i) e
  generators_from u (suc n) (suc k) h =
      let e : suc u + k ≡ u + suc k = omega arith in generators_from (suc u) n k (omega arith) ∙ ap (λ (i : ℕ). generator_in v i) e

  pub generators_at : (n u : ℕ) → u < n → get_or (generators_in v 0 n) u blank_generator ≡ generator_in v u
  generators_at n u h = let e : 0 + u ≡ u = omega arith in generators_from 0 n u h ∙ ap (λ (i : ℕ). generator_in v i) e

  generators_first : (u n m : ℕ) → n ≤ m → take n (generators_in v u m) ≡ generators_in v u n
  generators_first u zero m h = refl
  generators_first u (suc n) zero h = absurd (omega arith)
  generators_first u (suc n) (suc m) h = ap (λ (gs : List Generator). generator_in v u ∷ gs) (generators_first (suc u) n m (omega arith))

  -- the problem is the one that the arrays hold
  pub instance_is : v at 0 ≤ 48 → v at 1 ≤ 32 → instance_in v ≡ view (problem_in v)
  unfolding instance_in problem_in view
  instance_is h k = rw (take-take (v at 0) 48 (drop 2 v) h, take-take (v at 0) 48 (drop 50 v) h, generators_first 0 (v at 1) 32 k) refl

  pub units_long : length (instance_in v).units ≡ v at 1
  unfolding instance_in
  units_long = generators_long 0 (v at 1)

  module _ (u : ℕ) (inside : u < length (instance_in v).units) where
    pub unit_at : get_or (instance_in v).units u blank_generator ≡ generator_in v u
    unfolding instance_in
    unit_at = generators_at (v at 1) u (omega (arith, units_long))

    pub pU_at : v at (98 + u * 16 + 4) ≡ (get_or (instance_in v).units u blank_generator).pU
    pU_at = sym (ap (λ (g : Generator). g.pU) unit_at ∙ get_or-drop (98 + u * 16) v 4 0)

    -- what a rank is of, from k on
    pub of_rank_at : (f : ℕ → ℕ) (k : ℕ) → take (length (instance_in v).units) (drop k v) ≡ map f (ranked (instance_in v).units)
        → v at (k + u) ≡ f (get_or (ranked (instance_in v).units) u 0)
    of_rank_at f k e =
        sym (get_or-take (length (instance_in v).units) (drop k v) u 0 inside ∙ get_or-drop k v u 0)
        ∙ ap (λ (l : List ℕ). get_or l u 0) e
        ∙ map_at f (ranked (instance_in v).units) u 0 0 (omega (arith, inside, ranked_long (instance_in v).units))

  module _ (t : ℕ) (within : t < (instance_in v).periods) where
    pub demand_at : v at (2 + t) ≡ (instance_in v).demand at t
    unfolding instance_in
    demand_at = sym (get_or-take (v at 0) (drop 2 v) t 0 within ∙ get_or-drop 2 v t 0)

    pub spare_at : v at (50 + t) ≡ (instance_in v).spare at t
    unfolding instance_in
    spare_at = sym (get_or-take (v at 0) (drop 50 v) t 0 within ∙ get_or-drop 50 v t 0)
