-- What a refusal carries, by the range in which its number lies.
use Prim.Native.Nat.{ℕ, ◌≤◌, ◌<◌}
use native.Mathlib.Omega.{arith}
use mathlib.Core.Path.{◌≡◌, refl, ap}
use mathlib.Core.Bool.{Bool, true, false, ◌&&◌}
use lib.Dec.{leb}
use borrow.Author.Tests.{le-leb, lt-leb}
use Rattle.refusal.specs.Refusals.{between, carries_line, carries_unit, carries_period, applied, refusal_of, line_refusal}

inside : (lo hi n : ℕ) → lo ≤ n → n ≤ hi → between lo n hi ≡ true
inside lo hi n h k = simp (le-leb lo n h, le-leb n hi k)

under : (lo hi n : ℕ) → n < lo → between lo n hi ≡ false
under lo hi n h = simp (lt-leb lo n h)

over : (lo hi n : ℕ) → hi < n → between lo n hi ≡ false
over lo hi n h = go (leb lo n)
  where
    go : (t : Bool) → (t && leb n hi) ≡ false
    go true = lt-leb n hi h
    go false = refl

-- the place, by the three tests
module _ (n line unit period : ℕ) where
  placed : (a b c : Bool) → carries_line n ≡ a → carries_unit n ≡ b → carries_period n ≡ c
      → record { number = n; line = applied a line; unit = applied b unit; period = applied c period } ≡ refusal_of n line unit period
  unfolding refusal_of
  placed a b c p q r = simp (p, q, r)

  pub line_low : 11 ≤ n → n < 16 → record { number = n; line = line; unit = 0; period = 0 } ≡ refusal_of n line unit period
  unfolding carries_line carries_unit carries_period
  line_low h k =
      placed true false false (simp (inside 11 15 n (omega arith) (omega arith))) (simp (under 21 25 n (omega arith))) (under 21 25 n (omega arith))

  pub line_high : 31 ≤ n → n < 38 → record { number = n; line = line; unit = 0; period = 0 } ≡ refusal_of n line unit period
  unfolding carries_line carries_unit carries_period
  line_high h k =
      placed true false false (simp (over 11 15 n (omega arith), inside 31 37 n (omega arith) (omega arith))) (simp (over 21 25 n (omega arith))) (over 21 25 n (omega arith))

  no_line : 16 ≤ n → n < 31 → carries_line n ≡ false
  unfolding carries_line
  no_line h k = simp (over 11 15 n (omega arith), under 31 37 n (omega arith))

  pub period_only : 22 ≤ n → n < 24 → record { number = n; line = 0; unit = 0; period = period } ≡ refusal_of n line unit period
  unfolding carries_unit carries_period
  period_only h k =
      placed false false true (no_line (omega arith) (omega arith)) (simp (inside 21 25 n (omega arith) (omega arith), inside 22 23 n (omega arith) (omega arith)))
      (inside 21 25 n (omega arith) (omega arith))

  pub unit_first : n ≡ 21 → record { number = n; line = 0; unit = unit; period = period } ≡ refusal_of n line unit period
  unfolding carries_unit carries_period
  unit_first e =
      placed false true true (no_line (omega arith) (omega arith)) (simp (inside 21 25 n (omega arith) (omega arith), under 22 23 n (omega arith)))
      (inside 21 25 n (omega arith) (omega arith))

  pub unit_last : 24 ≤ n → n < 26 → record { number = n; line = 0; unit = unit; period = period } ≡ refusal_of n line unit period
  unfolding carries_unit carries_period
  unit_last h k =
      placed false true true (no_line (omega arith) (omega arith)) (simp (inside 21 25 n (omega arith) (omega arith), over 22 23 n (omega arith)))
      (inside 21 25 n (omega arith) (omega arith))

  nothing : carries_line n ≡ false → between 21 n 25 ≡ false → record { number = n; line = 0; unit = 0; period = 0 } ≡ refusal_of n line unit period
  unfolding carries_unit carries_period
  nothing p q = placed false false false p (simp q) q

  pub nothing_low : n < 11 → record { number = n; line = 0; unit = 0; period = 0 } ≡ refusal_of n line unit period
  unfolding carries_line
  nothing_low h = nothing (simp (under 11 15 n h, under 31 37 n (omega arith))) (under 21 25 n (omega arith))

  pub nothing_between : 16 ≤ n → n < 21 → record { number = n; line = 0; unit = 0; period = 0 } ≡ refusal_of n line unit period
  nothing_between h k = nothing (no_line h (omega arith)) (under 21 25 n (omega arith))

  pub nothing_after : 26 ≤ n → n < 31 → record { number = n; line = 0; unit = 0; period = 0 } ≡ refusal_of n line unit period
  nothing_after h k = nothing (no_line (omega arith) k) (over 21 25 n (omega arith))

  pub nothing_high : 38 ≤ n → record { number = n; line = 0; unit = 0; period = 0 } ≡ refusal_of n line unit period
  unfolding carries_line
  nothing_high h = nothing (simp (over 11 15 n (omega arith), over 31 37 n (omega arith))) (over 21 25 n (omega arith))

-- where a number carries a line and nothing else is given
pub line_only : (n line : ℕ) → carries_line n ≡ true → refusal_of n line 0 0 ≡ line_refusal n line
unfolding refusal_of
line_only n line e i = record { number = n; line = ap (λ (x : Bool). applied x line) e i; unit = none (carries_unit n) i; period = none (carries_period n) i }
  where
    none : (x : Bool) → applied x 0 ≡ 0
    none true = refl
    none false = refl
