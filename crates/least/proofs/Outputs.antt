-- A period on: the closed form of the best output by each of its cases.
use mathlib.Core.Path.{◌≡◌}
use Prim.Native.Nat.{ℕ, suc, ◌+◌, ◌*◌, ◌-◌, ◌/◌, ◌%◌, ◌≤◌, ◌<◌, min}
use native.Mathlib.Nat.{div-add-mod', mod-lt, lt_of_mul-lt-mul_right}
use native.Mathlib.Omega.{arith}
use borrow.Author.Tests.{le-leb, lt-leb, eq-eqb, ne_eqb}
use Rattle.model.specs.declared.generator.Generator.{Generator}
use Rattle.model.specs.Prices.{best_at}

-- ---- the best output

module _ (g : Generator) (x y : ℕ) where
  -- one more unit of output does not pay at pL
  pub best_at_low : y ≤ x + g.c * (2 * g.pL + 1) → g.pL ≡ best_at g x y
  unfolding best_at
  best_at_low h = rw (le-leb y (x + g.c * (2 * g.pL + 1)) h)

  module _ (pays : x + g.c * (2 * g.pL + 1) < y) where
    -- every unit of output pays alike
    pub best_at_flat : g.c ≡ 0 → g.pU ≡ best_at g x y
    unfolding best_at
    best_at_flat z = rw (lt-leb y (x + g.c * (2 * g.pL + 1)) pays, eq-eqb g.c 0 z)

    module _ (curved : g.c ≡ 0 → ⊥) where
      abbrev quotient : ℕ
      quotient = (y - x - g.c + (2 * g.c - 1)) / (2 * g.c)

      -- what it leaves
      parts : quotient * (2 * g.c) + (y - x - g.c + (2 * g.c - 1)) % (2 * g.c) ≡ y - x - g.c + (2 * g.c - 1)
      parts = div-add-mod' (y - x - g.c + (2 * g.c - 1)) (2 * g.c)

      rest : (y - x - g.c + (2 * g.c - 1)) % (2 * g.c) < 2 * g.c
      rest = mod-lt (y - x - g.c + (2 * g.c - 1)) (omega (arith, curved))

      -- the last unit of output pays: the quotient, rounded up, is pU or lies beyond
      pub best_at_top : x + 2 * g.c * g.pU < y + g.c → g.pU ≡ best_at g x y
      unfolding best_at
      best_at_top h =
          let s : g.pU * (2 * g.c) < suc quotient * (2 * g.c) = omega (arith, parts, rest, pays) in
          let l : g.pU < suc quotient = lt_of_mul-lt-mul_right (2 * g.c) s in
          let e : min g.pU quotient ≡ g.pU = omega arith in
          rw (lt-leb y (x + g.c * (2 * g.pL + 1)) pays, ne_eqb g.c 0 curved, e)

      -- or not
      pub best_at_quotient : y + g.c ≤ x + 2 * g.c * g.pU → quotient ≡ best_at g x y
      unfolding best_at
      best_at_quotient h =
          let s : quotient * (2 * g.c) < g.pU * (2 * g.c) = omega (arith, parts, curved, pays) in
          let l : quotient < g.pU = lt_of_mul-lt-mul_right (2 * g.c) s in
          let e : min g.pU quotient ≡ quotient = omega arith in
          rw (lt-leb y (x + g.c * (2 * g.pL + 1)) pays, ne_eqb g.c 0 curved, e)
