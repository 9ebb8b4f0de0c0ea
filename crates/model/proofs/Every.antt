-- A test of every member, taken from the front: what is left to test from place i on decides, as long as those before it passed.
use mathlib.Core.Path.{◌≡◌, refl, sym, ap, ◌∙◌}
use mathlib.Core.Bool.{Bool, true, false, ◌&&◌}
use mathlib.Core.List.{List, [], ◌∷◌}
use Prim.Native.Nat.{ℕ, suc, ◌+◌, ◌≤◌, ◌<◌}
use native.Mathlib.Omega.{arith}
use native.Mathlib.Numerals.{add-one}
use lib.ListN.{length, take, drop, get_or, drop_of_length-le}
use lib.Seq.{length-take-le, drop-cons, get_or-take}
use Rattle.std.specs.List.{list_all}
use Rattle.model.specs.Ranges.{every}

-- the same as the library's word
pub every_all : {A : Type 0} (test : A → Bool) (l : List A) → every test l ≡ list_all test l
every_all test [] = refl
every_all test (x ∷ l) = ap (λ (b : Bool). test x && b) (every_all test l)

module _ {A : Type 0} (test : A → Bool) (z : A) (l : List A) (n : ℕ) (fits : n ≤ length l) where
  -- from place i on
  abbrev pub Left : ℕ → Type 0
  Left i = every test (drop i (take n l)) ≡ every test (take n l)

  long : length (take n l) ≡ n
  long = length-take-le n l fits

  front : (i : ℕ) → i < n → drop i (take n l) ≡ get_or l i z ∷ drop (i + 1) (take n l)
  front i h =
      drop-cons (take n l) i z (omega (arith, long))
      ∙ ap (λ (x : A). x ∷ drop (suc i) (take n l)) (get_or-take n l i z h)
      ∙ ap (λ (m : ℕ). get_or l i z ∷ drop m (take n l)) (sym (add-one i))

  one_more : (b : Bool) (i : ℕ) → i < n → test (get_or l i z) ≡ b → Left i → (b && every test (drop (i + 1) (take n l))) ≡ every test (take n l)
  one_more b i h t e = sym (ap (every test) (front i h) ∙ ap (λ (b : Bool). b && every test (drop (i + 1) (take n l))) t) ∙ e

  pub one_passes : (i : ℕ) → i < n → test (get_or l i z) ≡ true → Left i → Left (i + 1)
  one_passes = one_more true

  pub one_fails : (i : ℕ) → i < n → test (get_or l i z) ≡ false → Left i → false ≡ every test (take n l)
  one_fails = one_more false

  pub all_pass : (i : ℕ) → n ≤ i → Left i → true ≡ every test (take n l)
  all_pass i h e = sym (ap (every test) (drop_of_length-le (take n l) {i = i} (omega (arith, long)))) ∙ e
