-- What Tini says of the time before period 1: below 0 it is a unit off, above 0 a unit on, and without its sign it is `since`.
-- The ends of the printed ranges, which are integers, become sums of naturals.
use mathlib.Core.Path.{◌≡◌, refl}
use mathlib.Core.Bool.{Bool, true, false}
use mathlib.Core.Logic.{◌⊎◌, inl, inr, ◌↔◌}
use Prim.Native.Nat.{ℕ, zero, suc, ◌+◌, ◌≤◌, ◌<◌}
use native.Mathlib.Omega.{arith}
use lib.IntN.{pos, neg_ℤ, ◌+ℤ◌, ◌-ℤ◌}
use lib.Signed.{◌≤ℤ◌, ◌<ℤ◌}
use Rattle.model.specs.declared.generator.Generator.{Generator}
use Rattle.model.specs.Instance.{Tini}
use Rattle.model.proofs.Integers.{up, down, le→nat, nat→le, +ℤ-nat, -ℤ-nat, ltZ→nat, nat→ltZ}

-- ---- a unit off, a unit on

pub record Off (g : Generator) : Type 0 where
  pub state : g.on ≡ false
  pub long : down (Tini g) ≡ g.since
  pub none_up : up (Tini g) ≡ 0
  pub some_down : 1 ≤ g.since

pub record On (g : Generator) : Type 0 where
  pub state : g.on ≡ true
  pub is : Tini g ≡ pos g.since
  pub some_up : 1 ≤ g.since

neg_parts : (n : ℕ) → (down (neg_ℤ (pos n)) ≡ n) × (up (neg_ℤ (pos n)) ≡ 0)
neg_parts zero = (refl, refl)
neg_parts (suc n) = (refl, refl)

pub off_state : (g : Generator) → g.on ≡ false → 1 ≤ g.since → Off g
off_state g e l = record { state = e; long = rw e (neg_parts g.since).0; none_up = rw e (neg_parts g.since).1; some_down = l }

pub on_state : (g : Generator) → g.on ≡ true → 1 ≤ g.since → On g
on_state g e l = record { state = e; is = rw e; some_up = l }

-- ---- the sign of Tini

pub off_below : (g : Generator) → g.on ≡ false → 1 ≤ g.since → Tini g <ℤ pos 0
off_below g e l = let O = off_state g e l in record { lt = nat→ltZ (Tini g) (pos 0) (omega arith) }

pub on_above : (g : Generator) → g.on ≡ true → 1 ≤ g.since → pos 0 <ℤ Tini g
on_above g e l = let O = on_state g e l in record { lt = rw O.is (nat→ltZ (pos 0) (pos g.since) (omega arith)) }

pub off_of : (g : Generator) → Tini g <ℤ pos 0 → Off g
off_of g h = go g.on refl
  where
    go : (b : Bool) → g.on ≡ b → Off g
    go true e = absurd (omega (arith, rw e at (ltZ→nat (Tini g) (pos 0) h.lt)))
    go false e = off_state g e (omega (arith, (neg_parts g.since).0, (neg_parts g.since).1, rw e at (ltZ→nat (Tini g) (pos 0) h.lt)))

pub on_of : (g : Generator) → pos 0 <ℤ Tini g → On g
on_of g h = go g.on refl
  where
    go : (b : Bool) → g.on ≡ b → On g
    go true e = on_state g e (omega (arith, rw e at (ltZ→nat (pos 0) (Tini g) h.lt)))
    go false e = absurd (omega (arith, (neg_parts g.since).1, rw e at (ltZ→nat (pos 0) (Tini g) h.lt)))

-- one of the two, if Tini is not 0
pub either_of : (g : Generator) → 1 ≤ g.since → (Tini g <ℤ pos 0) ⊎ (pos 0 <ℤ Tini g)
either_of g l = go g.on refl
  where
    go : (b : Bool) → g.on ≡ b → (Tini g <ℤ pos 0) ⊎ (pos 0 <ℤ Tini g)
    go true e = inr (on_above g e l)
    go false e = inl (off_below g e l)

-- ---- the ends of the ranges of (5), (6) and (16)

pub end5 : (g : Generator) (D t : ℕ) → Off g → (pos t ≤ℤ (pos D +ℤ Tini g)) ↔ (t + g.since ≤ D)
end5 g D t O = (
  λ h. omega (arith, le→nat (pos t) (pos D +ℤ Tini g) h, +ℤ-nat (pos D) (Tini g)),
  λ h. nat→le (pos t) (pos D +ℤ Tini g) (omega (arith, +ℤ-nat (pos D) (Tini g))),
)

pub end6 : (g : Generator) (U t : ℕ) → On g → (pos t ≤ℤ (pos U -ℤ Tini g)) ↔ (t + g.since ≤ U)
end6 g U t O = rw O.is (
  λ h. omega (arith, le→nat (pos t) (pos U -ℤ pos g.since) h, -ℤ-nat U g.since),
  λ h. nat→le (pos t) (pos U -ℤ pos g.since) (omega (arith, -ℤ-nat U g.since)),
)

pub start16 : (g : Generator) (N t : ℕ) → Off g → ((pos N +ℤ Tini g +ℤ pos 1) <ℤ pos t) ↔ (N + 1 < t + g.since)
start16 g N t O = (
  λ h. omega (arith, ltZ→nat (pos N +ℤ Tini g +ℤ pos 1) (pos t) h.lt, +ℤ-nat (pos N) (Tini g), +ℤ-nat (pos N +ℤ Tini g) (pos 1)),
  λ h. record { lt = nat→ltZ (pos N +ℤ Tini g +ℤ pos 1) (pos t) (omega (arith, +ℤ-nat (pos N) (Tini g), +ℤ-nat (pos N +ℤ Tini g) (pos 1))) },
)
