-- The best output in closed form is the smallest of those whose cost is least (document 01, Wrong turns): one more unit of
-- output costs x + c·(2p + 1) and saves y, so the cost falls as long as that pays and never falls again.
use mathlib.Core.Path.{◌≡◌, ap}
use mathlib.Core.Bool.{Bool, true, false, not, cond}
use Prim.Native.Nat.{ℕ, zero, suc, ◌+◌, ◌*◌, ◌-◌, ◌/◌, ◌%◌, ◌≤◌, ◌<◌, min}
use native.Mathlib.Nat.{le_refl, le_of_eq, div-add-mod', mod-lt, add-zero, add-suc, mul-le-mul_right, lt_of_mul-lt-mul_right}
use native.Mathlib.Omega.{arith}
use lib.Dec.{T, leb, eqb, leb→le, nleb→lt, eqb→eq}
use Rattle.model.specs.declared.generator.Generator.{Generator}
use Rattle.model.specs.Prices.{on_value, best_at, BestAt}

-- ---- the cost falls, then rises

module _ (g : Generator) (x y : ℕ) where
  pub one_more : (p : ℕ) → p < g.pU → on_value g x y (suc p) + y ≡ on_value g x y p + (x + g.c * (2 * p + 1))
  unfolding on_value
  one_more p h =
      let e : g.pU - p ≡ suc (g.pU - suc p) = omega arith in
      rw e (raw g.a g.c p (g.pU - suc p))
    where
      raw : (a c p d : ℕ) → a + x * suc p + c * suc p * suc p + y * d + y ≡ a + x * p + c * p * p + y * suc d + (x + c * (2 * p + 1))
      raw a c p d = omega arith

  -- from an output at which one more does not pay, no higher one does
  rises : (r n : ℕ) → y ≤ x + g.c * (2 * r + 1) → r + n ≤ g.pU → on_value g x y r ≤ on_value g x y (r + n)
  rises r zero h k = rw add-zero (le_refl (on_value g x y r))
  rises r (suc n) h k = rw add-suc (omega (arith, rises r n h (omega arith), one_more (r + n) (omega arith)))

  -- below an output up to which one more pays, every output costs more
  falls : (p n : ℕ) → x + g.c * (2 * (p + n) + 1) < y → p + suc n ≤ g.pU → on_value g x y (p + suc n) < on_value g x y p
  falls p zero h k = rw (add-suc, add-zero) (omega (arith, one_more p (omega arith)))
  falls p (suc n) h k = rw add-suc (omega (arith, falls p n (omega arith) (omega arith), one_more (p + suc n) (omega arith)))

  -- so an output is best where one more, if there is one more, does not pay, and the last one, if there is one, paid
  module _ (r : ℕ) (low : g.pL ≤ r) (high : r ≤ g.pU) (stops : r < g.pU → y ≤ x + g.c * (2 * r + 1))
      (paid : (p : ℕ) → r ≡ suc p → g.pL ≤ p → x + g.c * (2 * p + 1) < y) where
    under : (p : ℕ) → g.pL ≤ p → p < r → on_value g x y r < on_value g x y p
    under p l h = go (r - suc p) (omega arith)
      where
        go : (n : ℕ) → p + suc n ≡ r → on_value g x y r < on_value g x y p
        go n e = rw (← e) (falls p n (paid (p + n) (omega arith) (omega arith)) (omega arith))

    over : (p : ℕ) → r ≤ p → p ≤ g.pU → on_value g x y r ≤ on_value g x y p
    over p h k = go (p - r) (omega arith)
      where
        go : (n : ℕ) → r + n ≡ p → on_value g x y r ≤ on_value g x y p
        go zero e = le_of_eq (ap (on_value g x y) (omega arith))
        go (suc n) e = rw (← e) (rises r (suc n) (stops (omega arith)) (omega arith))

    pub best_where : BestAt g x y r
    best_where = record {
      low = low;
      high = high;
      least = λ p l k. either p (leb r p) (λ t. over p (leb→le r p t) k) (λ t. under p l (nleb→lt r p t));
      first = under;
    }
      where
        either : (p : ℕ) (c : Bool) → (T c → on_value g x y r ≤ on_value g x y p) → (T (not c) → on_value g x y r < on_value g x y p)
            → on_value g x y r ≤ on_value g x y p
        either p true f h = f tt
        either p false f h = let i = h tt in omega arith

-- ---- the closed form

-- a quotient rounded up
record Up (n d m : ℕ) : Type 0 where
  enough : n ≤ m * d
  tight : m * d < n + d

up : (n d : ℕ) → 0 < d → Up n d ((n + (d - 1)) / d)
up n d h =
    let e : (n + (d - 1)) / d * d + (n + (d - 1)) % d ≡ n + (d - 1) = div-add-mod' (n + (d - 1)) d in
    let l : (n + (d - 1)) % d < d = mod-lt (n + (d - 1)) h in
    record { enough = omega arith; tight = omega arith }

module _ (g : Generator) (x y : ℕ) (ordered : g.pL ≤ g.pU) where
  -- no step pays
  at_low : y ≤ x + g.c * (2 * g.pL + 1) → BestAt g x y g.pL
  at_low h = best_where g x y g.pL (le_refl g.pL) ordered (λ l. h) (λ p e l. absurd (omega arith))

  module _ (pays : x + g.c * (2 * g.pL + 1) < y) where
    -- every step pays alike
    at_high : g.c ≡ 0 → BestAt g x y g.pU
    at_high z =
        let i : x + 0 * (2 * g.pL + 1) < y = rw z at pays in
        best_where g x y g.pU ordered (le_refl g.pU) (λ h. absurd (omega arith)) (λ p e l. rw z (omega arith))

    -- the quotient q = (y - x - c) / 2c rounded up, or pU where it lies beyond
    module _ (q : ℕ) (there : Up (y - x - g.c) (2 * g.c) q) (curved : 0 < g.c) where
      lasts : (p : ℕ) → suc p ≤ q → x + g.c * (2 * p + 1) < y
      lasts p h =
          let s : suc p * (2 * g.c) ≤ q * (2 * g.c) = mul-le-mul_right (2 * g.c) h in
          omega (arith, there.tight)

      beyond : g.pU ≤ q → BestAt g x y g.pU
      beyond h =
          best_where g x y g.pU ordered (le_refl g.pU) (λ l. absurd (omega arith)) (λ p e l. lasts p (omega arith))

      between : q ≤ g.pU → BestAt g x y q
      between h =
          let s : g.pL * (2 * g.c) < q * (2 * g.c) = omega (arith, there.enough) in
          let l : g.pL < q = lt_of_mul-lt-mul_right (2 * g.c) s in
          best_where g x y q (omega arith) h (λ k. omega (arith, there.enough)) (λ p e i. lasts p (omega arith))

      at_quotient : BestAt g x y (min g.pU q)
      at_quotient = go (leb q g.pU) (λ t. leb→le q g.pU t) (λ t. nleb→lt q g.pU t)
        where
          go : (c : Bool) → (T c → q ≤ g.pU) → (T (not c) → g.pU < q) → BestAt g x y (min g.pU q)
          go true f h =
              let l : q ≤ g.pU = f tt in
              let e : min g.pU q ≡ q = omega arith in
              rw e (between l)
          go false f h =
              let l : g.pU < q = h tt in
              let e : min g.pU q ≡ g.pU = omega arith in
              rw e (beyond (omega arith))

  pub best_at_is : BestAt g x y (best_at g x y)
  unfolding best_at
  best_at_is =
      go (leb y (x + g.c * (2 * g.pL + 1))) (eqb g.c 0) (λ t. leb→le y (x + g.c * (2 * g.pL + 1)) t)
      (λ t. nleb→lt y (x + g.c * (2 * g.pL + 1)) t) (λ t. eqb→eq g.c 0 t) (λ t. above_zero g.c t)
    where
      above_zero : (c : ℕ) → T (not (eqb c 0)) → 0 < c
      above_zero zero t = absurd t
      above_zero (suc c) t = omega arith

      go : (a b : Bool) → (T a → y ≤ x + g.c * (2 * g.pL + 1)) → (T (not a) → x + g.c * (2 * g.pL + 1) < y) → (T b → g.c ≡ 0) → (T (not b) → 0 < g.c)
          → BestAt g x y (cond a g.pL (cond b g.pU (min g.pU ((y - x - g.c + (2 * g.c - 1)) / (2 * g.c)))))
      go true b h k i j = at_low (h tt)
      go false true h k i j = at_high (k tt) (i tt)
      go false false h k i j =
          let l : 0 < g.c = j tt in
          at_quotient (k tt) ((y - x - g.c + (2 * g.c - 1)) / (2 * g.c)) (up (y - x - g.c) (2 * g.c) (omega arith)) l
