-- What is read as n is the digits of n, and nothing else; and a number of any length is read, the large ones as the cap.
use Prim.Native.Nat.{ℕ, ◌+◌, min}
use mathlib.Core.Path.{◌≡◌, refl, sym, ap, ◌∙◌}
use mathlib.Core.Bool.{Bool, true, false}
use mathlib.Core.Logic.{◌↔◌}
use mathlib.Core.List.{List, [], ◌∷◌, ◌++◌}
use lib.ListN.{length, drop, take-append-drop}
use lib.Seq.{drop-drop}
use Rattle.decimal.specs.Decimal.{is_digit, value_of, all_digits, numeral, digits}
use Rattle.decimal.specs.NumberRead.{read_cap, keep_if, leading_digits, number, number_of, number_at}
use Rattle.decimal.proofs.NumberRead.{leading_take, number_value}
use Rattle.decimal.proofs.Digits.{and_true, digits_all, canonical_digits, numeral_digits, value_digits, digits_value}

-- ---- numbers without leading zeros

-- bytes are the digits of n exactly where they are a number without leading zeros, of value n
pub numeral_is : (f : List ℕ) (n : ℕ) → ((numeral f ≡ true) × (value_of 0 f ≡ n)) ↔ (f ≡ digits n)
numeral_is f n = (
  (λ p. sym (digits_value f p.0) ∙ ap digits p.1),
  (λ e. (ap numeral e ∙ numeral_digits n, ap (value_of 0) e ∙ value_digits n)),
)

-- two numbers with the same digits are one
pub digits_one : (m n : ℕ) → digits m ≡ digits n → m ≡ n
digits_one m n e = sym (value_digits m) ∙ ap (value_of 0) e ∙ value_digits n

-- ---- the digits that a text begins with

pub run_append : (a rest : List ℕ) → all_digits a ≡ true → leading_digits rest ≡ [] → leading_digits (a ++ rest) ≡ a
run_append [] rest h k = k
run_append (b ∷ a) rest h k =
    let p = and_true (is_digit b) (all_digits a) h in
    ap (λ (t : Bool). keep_if t b (leading_digits (a ++ rest))) p.0 ∙ ap (λ (l : List ℕ). b ∷ l) (run_append a rest p.1 k)

pub all_run : (t : List ℕ) → all_digits (leading_digits t) ≡ true
all_run [] = refl
all_run (b ∷ t) = go (is_digit b) refl (all_run t)
  where
    go : (d : Bool) → is_digit b ≡ d → all_digits (leading_digits t) ≡ true → all_digits (keep_if d b (leading_digits t)) ≡ true
    go true e h = simp (e, h)
    go false e h = refl

-- no digit follows them
run_over : (t : List ℕ) → leading_digits (drop (length (leading_digits t)) t) ≡ []
run_over [] = refl
run_over (b ∷ t) = go (is_digit b) refl (run_over t)
  where
    go : (d : Bool) → is_digit b ≡ d → leading_digits (drop (length (leading_digits t)) t) ≡ [] → leading_digits (drop (length (keep_if d b (leading_digits t))) (b ∷ t)) ≡ []
    go true e h = h
    go false e h = ap (λ (d : Bool). keep_if d b (leading_digits t)) e

-- ---- the reader of a number

-- the digits of n stand at the place and no digit follows: n is read
pub read_digits : (s rest : List ℕ) (at n : ℕ) → drop at s ≡ digits n ++ rest → leading_digits rest ≡ [] → number_at s at ≡ number (min read_cap n) (at + length (digits n))
unfolding number_at number_of
read_digits s rest at n q k =
    let r : leading_digits (drop at s) ≡ digits n = ap leading_digits q ∙ run_append (digits n) rest (digits_all n) k in
    rw r (simp (canonical_digits n, value_digits n))

-- what was read as v, up to the place e
pub record WasDigits (s : List ℕ) (at v e : ℕ) : Type 0 where
  pub number : ℕ
  pub value : v ≡ min read_cap number
  pub text : drop at s ≡ digits number ++ drop e s
  pub alone : leading_digits (drop e s) ≡ []

pub digits_read : (s : List ℕ) (at v e : ℕ) → number_at s at ≡ number v e → WasDigits s at v e
digits_read s at v e q =
    let n = number_value s at v e q in
    let ds = leading_digits (drop at s) in
    let d : digits (value_of 0 ds) ≡ ds = digits_value ds (simp (all_run (drop at s), n.shape)) in
    let place : drop (length ds) (drop at s) ≡ drop e s = drop-drop (length ds) at s ∙ ap (λ (i : ℕ). drop i s) (sym n.end) in
    record {
      number = value_of 0 ds;
      value = n.value;
      text = sym (take-append-drop (length ds) (drop at s)) ∙ (λ i. (leading_take (drop at s) ∙ sym d) i ++ place i);
      alone = ap leading_digits (sym place) ∙ run_over (drop at s);
    }
