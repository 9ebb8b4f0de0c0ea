-- The sum over the units with prices on the ramps, unit by unit: what the first u units answer, and one unit more.
use mathlib.Core.Path.{◌≡◌, refl, sym, ◌∙◌, ap, ap₂}
use mathlib.Core.Bool.{Bool, true, false, cond, ◌||◌}
use mathlib.Core.List.{List, [], ◌∷◌}
use Prim.Native.Nat.{ℕ, zero, suc, ◌+◌, ◌≤◌, ◌<◌}
use native.Mathlib.Numerals.{add-one}
use native.Mathlib.Omega.{arith}
use lib.ListN.{length, get_or, take, length-take}
use lib.IntN.{ℤ, ◌+ℤ◌, +ℤ_idl, +ℤ_idr, +ℤ_assoc}
use Rattle.model.specs.declared.generator.Generator.{Generator}
use Rattle.model.specs.Instance.{Instance}
use Rattle.model.specs.Ranges.{All, GoodUnit, GoodPrice}
use Rattle.model.specs.Above.{Mark, Marks, rest}
use Rattle.model.specs.Leaf.{is_stuck, any_stuck}
use Rattle.model.specs.Ramps.{Steps, rest_steps, ramp_least, ramp_leasts, ramp_leaf_value}
use Rattle.model.proofs.RampSizes.{ramp_least_fits}
use Rattle.model.proofs.LeafSizes.{ramp_leasts_fit}
use Rattle.std.specs.Prelude.{None, Some}
use Rattle.least.specs.UnitLeasts.{ramp_least_of}
use Rattle.leaves.specs.LeafLeasts.{ramp_leasts_of, ramp_leaf_of, plus_unit, plus_requirement}
use Rattle.leaves.specs.Limits.{Small, SmallLeast}
use Rattle.leaves.proofs.SmallSums.{small_of, small_least}
use Rattle.leaves.proofs.Units.{said_value, all_front, any_stuck_next}
use Rattle.leaves.proofs.LeafAnswers.{plus_required}

-- ---- one unit more

pub ramp_leasts_more : (n : ℕ) (q s : ℕ → ℕ) (x y : Steps) (u : ℕ) (l : List Generator) (d : Generator) (m : Marks) → u < length l
    → ramp_leasts n q s x y (take (suc u) l) m ≡ ramp_leasts n q s x y (take u l) m +ℤ ramp_least n q s (x u) (y u) (get_or l u d) (m u)
unfolding ramp_leasts
ramp_leasts_more n q s x y u [] d m h = absurd (omega arith)
ramp_leasts_more n q s x y zero (g ∷ l) d m h = +ℤ_idr (ramp_least n q s (x 0) (y 0) g (m 0)) ∙ sym (+ℤ_idl (ramp_least n q s (x 0) (y 0) g (m 0)))
ramp_leasts_more n q s x y (suc u) (g ∷ l) d m h =
    ap (λ (z : ℤ). ramp_least n q s (x 0) (y 0) g (m 0) +ℤ z) (ramp_leasts_more n q s (rest_steps x) (rest_steps y) u l d (rest m) (omega arith))
    ∙ sym (+ℤ_assoc (ramp_least n q s (x 0) (y 0) g (m 0)) (ramp_leasts n q s (rest_steps x) (rest_steps y) (take u l) (rest m)) (ramp_least n q s (x (suc u)) (y (suc u)) (get_or l u d) (m (suc u))))

joined : (b c : Bool) (v w : ℤ) → plus_unit (cond b None (Some v)) (cond c None (Some w)) ≡ cond (b || c) None (Some (v +ℤ w))
joined true c v w = refl
joined false true v w = refl
joined false false v w = refl

pub plus_unit_is : (n : ℕ) (q s : ℕ → ℕ) (x y : Steps) (u : ℕ) (l : List Generator) (d : Generator) (m : Marks) → u < length l
    → plus_unit (ramp_leasts_of n q s x y (take u l) m) (ramp_least_of n q s (x u) (y u) (get_or l u d) (m u)) ≡ ramp_leasts_of n q s x y (take (u + 1) l) m
plus_unit_is n q s x y u l d m h =
    rw (add-one u)
    (joined (any_stuck n (take u l) m) (is_stuck n (get_or l u d) (m u)) (ramp_leasts n q s x y (take u l) m) (ramp_least n q s (x u) (y u) (get_or l u d) (m u))
    ∙ ap₂ (λ (b : Bool) (z : ℤ). cond b None (Some z)) (sym (any_stuck_next n u l d m h)) (sym (ramp_leasts_more n q s x y u l d m h)))

-- ---- all units

pub plus_requirement_is : (P : Instance) (m : Marks) (q s : ℕ → ℕ) (x y : Steps)
    → plus_requirement P q s (ramp_leasts_of P.periods q s x y P.units m) ≡ ramp_leaf_of P m q s x y
unfolding ramp_leaf_value
plus_requirement_is P m q s x y = plus_required P q s (any_stuck P.periods P.units m) (ramp_leasts P.periods q s x y P.units m)

-- ---- sizes

module _ (n : ℕ) (n_le : n ≤ 48) (q s : ℕ → ℕ) (hq : (t : ℕ) → t < n → GoodPrice (q t)) (hs : (t : ℕ) → t < n → GoodPrice (s t)) where
  -- what a unit answered
  pub ramp_value_small : (x y : ℕ → ℕ) → ((t : ℕ) → GoodPrice (x t)) → ((t : ℕ) → GoodPrice (y t)) → (g : Generator) → GoodUnit g → (m : ℕ → Mark) (v : ℤ)
      → Some v ≡ ramp_least_of n q s x y g m → Small v
  ramp_value_small x y hx hy g good m v e =
      let z = ramp_least n q s x y g m in
      let f = ramp_least_fits g good n n_le q s x y hq hs hx hy m in
      rw (said_value (is_stuck n g m) z v e).1 (small_of z (omega (arith, f)) (omega (arith, f)))

  -- what the first u units answered
  pub ramp_front_small : (x y : Steps) → ((u t : ℕ) → GoodPrice (x u t)) → ((u t : ℕ) → GoodPrice (y u t)) → (u : ℕ) (l : List Generator) → All GoodUnit l → length l ≤ 32
      → (m : Marks) → SmallLeast (ramp_leasts_of n q s x y (take u l) m)
  ramp_front_small x y hx hy u l good h m =
      let z = ramp_leasts n q s x y (take u l) m in
      let k : length (take u l) ≤ 32 = omega (arith, length-take u l) in
      let f = ramp_leasts_fit n n_le q s hq hs x y hx hy (take u l) (all_front GoodUnit u l good) m in
      small_least (any_stuck n (take u l) m) z (small_of z (omega (arith, f)) (omega (arith, f)))
