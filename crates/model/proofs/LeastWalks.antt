-- The least of integers over all rows from a walk in naturals: where each row's integer, with a number K added, is the row's
-- cost for the walk, the least is the walk's value less K. One subtraction at the end; a price leaf is one use.
use mathlib.Core.Path.{◌≡◌, subst}
use mathlib.Core.Bool.{Bool}
use mathlib.Core.List.Memᴰ
use mathlib.Core.List.{List, map, Memᴰ}
use Prim.Native.Nat.{ℕ, suc, ◌+◌, ◌<◌}
use native.Mathlib.Omega.{arith}
use lib.IntN.{ℤ, pos, ◌-ℤ◌}
use lib.Signed.{◌≤ℤ◌}
use Rattle.model.specs.declared.generator.Generator.{Generator}
use Rattle.model.specs.Above.{Mark}
use Rattle.model.specs.Leaf.{least, rows_of}
use Rattle.model.specs.Walk.{walk}
use Rattle.model.proofs.Integers.{up, down, nat→le, nat→eq, -ℤ-nat}
use Rattle.model.proofs.Leasts.{least_is}
use Rattle.model.specs.Agreement.{Candidate}
use Rattle.model.proofs.Candidates.{rows_of_are}
use Rattle.model.proofs.WalkRows.{row_total, Cheapest, walk_below, walk_attained}

module _ (n : ℕ) (g : Generator) (positive : 0 < g.pL) (m : ℕ → Mark) (c : ℕ → ℕ → ℕ) (w : ℕ → Bool → ℕ) (o : ℕ → ℕ)
    (cheapest : (t : ℕ) → Cheapest g (c t) (w t) (o t)) (val : List ℕ → ℤ) (K : ℕ)
    (shifts : (r : List ℕ) → Candidate n g m r → up (val r) + K ≡ row_total n g c g.on g.since r + down (val r)) where
  pub least_walk : (v : ℕ) → walk n g m w g.on g.since ≡ suc v → least (map val (rows_of n g m)) ≡ pos v -ℤ pos K
  least_walk v e =
      let a = walk_attained g positive n m c w o cheapest (omega arith) in
      least_is (map val (rows_of n g m)) (pos v -ℤ pos K)
      (subst (λ (z : ℤ). Memᴰ z (map val (rows_of n g m))) (same a.0 a.1 a.2) (Memᴰ.map val ((rows_of_are n g m a.0).1 a.1)))
      (λ x k. let i = Memᴰ.of_map val (rows_of n g m) k in subst (λ (z : ℤ). (pos v -ℤ pos K) ≤ℤ z) i.2 (under i.0 ((rows_of_are n g m i.0).0 i.1)))
    where
      same : (r : List ℕ) → Candidate n g m r → walk n g m w g.on g.since ≡ suc (row_total n g c g.on g.since r) → val r ≡ pos v -ℤ pos K
      same r C k = nat→eq (val r) (pos v -ℤ pos K) (omega (arith, e, k, shifts r C, -ℤ-nat v K))

      under : (r : List ℕ) → Candidate n g m r → (pos v -ℤ pos K) ≤ℤ val r
      under r C =
          nat→le (pos v -ℤ pos K) (val r)
          (omega (arith, e, walk_below g positive n m c w o cheapest r C, shifts r C, -ℤ-nat v K))
