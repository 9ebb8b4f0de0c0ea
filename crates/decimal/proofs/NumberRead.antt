-- Laws of `specs/Decimal.antt` that the proofs cite.
use Prim.Native.Nat.{ℕ, suc, ◌+◌, ◌-◌, ◌*◌, ◌≤◌, ◌<◌, min}
use native.Mathlib.Nat.{add-zero}
use native.Mathlib.Numerals.{add-one}
use native.Mathlib.Omega.{arith}
use mathlib.Core.Path.{◌≡◌, refl, sym, ap, ◌∙◌}
use mathlib.Core.Bool.{Bool, true, false, cond}
use mathlib.Core.List.{List, [], ◌∷◌}
use lib.ListN.{length, take, drop, get_or, drop_of_length-le, length-drop}
use lib.Seq.{drop-cons, get_or-drop}
use borrow.Author.Tests.{eq-eqb, ne_eqb}
use Rattle.std.specs.Prelude.{None}
use Rattle.std.proofs.lemmas.Option.{same_Some}
use Rattle.decimal.specs.declared.Number.{Number}
use Rattle.decimal.specs.Decimal.{is_digit, value_of, canonical}
use Rattle.decimal.specs.NumberRead.{read_cap, keep_if, leading_digits, digits_after, number, number_of, number_at}

-- the run from a place within the text, by whether a digit stands there
pub leading_at : (s : List ℕ) (i : ℕ) (t : Bool) → i < length s → is_digit (get_or s i 0) ≡ t → leading_digits (drop i s) ≡ keep_if t (get_or s i 0) (leading_digits (drop (suc i) s))
leading_at s i t h e = ap leading_digits (drop-cons s i 0 h) ∙ ap (λ (u : Bool). keep_if u (get_or s i 0) (leading_digits (drop (suc i) s))) e

-- saturating at each digit saturates the whole
pub capped : (v : ℕ) (ds : List ℕ) → min read_cap (value_of (min read_cap v) ds) ≡ min read_cap (value_of v ds)
capped v [] = omega arith
capped v (d ∷ ds) =
    let e : min read_cap (min read_cap v * 10 + (d - 48)) ≡ min read_cap (v * 10 + (d - 48)) = omega arith in
    sym (capped (min read_cap v * 10 + (d - 48)) ds) ∙ ap (λ (w : ℕ). min read_cap (value_of w ds)) e ∙ capped (v * 10 + (d - 48)) ds

-- the digits at the place i, after digits of value v: a digit that stands there counts among those before
pub digits_on : (s : List ℕ) (v i : ℕ) → i < length s → is_digit (get_or s i 0) ≡ true
    → digits_after (min read_cap (v * 10 + (get_or s i 0 - 48))) s (i + 1) ≡ digits_after v s i
digits_on s v i h e = λ j. record { value = value j; end = end j }
  where
    value : min read_cap (value_of (min read_cap (v * 10 + (get_or s i 0 - 48))) (leading_digits (drop (i + 1) s))) ≡ min read_cap (value_of v (leading_digits (drop i s)))
    value = rw (leading_at s i true h e, add-one) (capped (v * 10 + (get_or s i 0 - 48)) (leading_digits (drop (suc i) s)))

    end : i + 1 + length (leading_digits (drop (i + 1) s)) ≡ i + length (leading_digits (drop i s))
    end = rw (leading_at s i true h e, add-one) (omega arith)

-- no digit is left
digits_over : (s : List ℕ) (v i : ℕ) → leading_digits (drop i s) ≡ [] → v ≤ read_cap → record { value = v; end = i } ≡ digits_after v s i
digits_over s v i e l =
    let value : v ≡ min read_cap (value_of v (leading_digits (drop i s))) = rw e (omega arith) in
    let end : i ≡ i + length (leading_digits (drop i s)) = rw e (omega arith) in
    λ j. record { value = value j; end = end j }

pub digits_off : (s : List ℕ) (v i : ℕ) → i < length s → is_digit (get_or s i 0) ≡ false → v ≤ read_cap → record { value = v; end = i } ≡ digits_after v s i
digits_off s v i h e = digits_over s v i (leading_at s i false h e)

pub digits_end : (s : List ℕ) (v i : ℕ) → length s ≤ i → v ≤ read_cap → record { value = v; end = i } ≡ digits_after v s i
digits_end s v i h = digits_over s v i (ap leading_digits (drop_of_length-le s h))

pub leading_take : (s : List ℕ) → take (length (leading_digits s)) s ≡ leading_digits s
leading_take [] = refl
leading_take (b ∷ s) = go (is_digit b) (leading_take s)
  where
    go : (t : Bool) → take (length (leading_digits s)) s ≡ leading_digits s → take (length (keep_if t b (leading_digits s))) (b ∷ s) ≡ keep_if t b (leading_digits s)
    go true h = ap (λ (l : List ℕ). b ∷ l) h
    go false h = refl

run_within : (s : List ℕ) → length (leading_digits s) ≤ length s
run_within [] = omega arith
run_within (b ∷ s) = go (is_digit b) (run_within s)
  where
    go : (t : Bool) → length (leading_digits s) ≤ length s → length (keep_if t b (leading_digits s)) ≤ suc (length s)
    go true h = omega arith
    go false h = omega arith

-- the run lies within the text, where it has a digit
pub leading_fits : (s : List ℕ) (at : ℕ) → at < at + length (leading_digits (drop at s)) → at + length (leading_digits (drop at s)) ≤ length s
leading_fits s at h =
    let w = run_within (drop at s) in
    omega (arith, w, length-drop at s)

-- the first digit of the run is the text's byte there
pub leading_first : (s : List ℕ) (at : ℕ) → at < at + length (leading_digits (drop at s)) → get_or (leading_digits (drop at s)) 0 0 ≡ get_or s at 0
leading_first s at h = go (leading_digits (drop at s)) refl h
  where
    first : (t : List ℕ) (ds : List ℕ) → leading_digits t ≡ ds → 0 < length ds → get_or ds 0 0 ≡ get_or t 0 0
    first [] ds e h = rw (← e) refl
    first (b ∷ t) ds e h = one (is_digit b) e
      where
        one : (u : Bool) → keep_if u b (leading_digits t) ≡ ds → get_or ds 0 0 ≡ b
        one true q = rw (← q) refl
        one false q = absurd (let z : length {A = ℕ} [] ≡ length ds = ap length q in omega arith)

    go : (ds : List ℕ) → leading_digits (drop at s) ≡ ds → at < at + length ds → get_or ds 0 0 ≡ get_or s at 0
    go ds e k = first (drop at s) ds e (omega arith) ∙ get_or-drop at s 0 0 ∙ ap (λ (n : ℕ). get_or s n 0) (add-zero at)

-- the answers, by how many digits there are
pub number_none : (ds : List ℕ) (at : ℕ) → at + length ds ≡ at → number_of ds at ≡ None
unfolding number_of
number_none [] at h = refl
number_none (d ∷ ds) at h = absurd (omega arith)

pub number_one : (ds : List ℕ) (at : ℕ) → at < at + length ds → at + length ds ≤ at + 1 → number_of ds at ≡ number (min read_cap (value_of 0 ds)) (at + length ds)
unfolding number_of
number_one [] at h k = absurd (omega arith)
number_one (d ∷ []) at h k = refl
number_one (d ∷ e ∷ ds) at h k = absurd (omega arith)

pub number_zero : (ds : List ℕ) (at : ℕ) → at + 1 < at + length ds → get_or ds 0 0 ≡ 48 → number_of ds at ≡ None
unfolding number_of
number_zero [] at h k = absurd (omega arith)
number_zero (d ∷ []) at h k = absurd (omega arith)
number_zero (d ∷ e ∷ ds) at h k = simp (eq-eqb d 48 k)

pub number_many : (ds : List ℕ) (at : ℕ) → at + 1 < at + length ds → (get_or ds 0 0 ≡ 48 → ⊥) → number_of ds at ≡ number (min read_cap (value_of 0 ds)) (at + length ds)
unfolding number_of
number_many [] at h k = absurd (omega arith)
number_many (d ∷ []) at h k = absurd (omega arith)
number_many (d ∷ e ∷ ds) at h k = simp (ne_eqb d 48 k)

-- what `read_number` answers at each return. e is the end that it found, and v the value
module _ (s : List ℕ) (at e : ℕ) (end : e ≡ at + length (leading_digits (drop at s))) where
  pub within : (e ≡ at → ⊥) → (at ≤ e) × (e ≤ length s)
  within h = (omega arith, rw end (leading_fits s at (omega (arith, h))))

  pub answer_none : e ≡ at → None ≡ number_at s at
  unfolding number_at
  answer_none h = sym (number_none (leading_digits (drop at s)) at (sym end ∙ h))

  pub answer_zero : at + 1 < e → get_or s at 0 ≡ 48 → None ≡ number_at s at
  unfolding number_at
  answer_zero h k = sym (number_zero (leading_digits (drop at s)) at (omega arith) (leading_first s at (omega arith) ∙ k))

  module _ (v : ℕ) (val : v ≡ min read_cap (value_of 0 (leading_digits (drop at s)))) where
    same : number v e ≡ number (min read_cap (value_of 0 (leading_digits (drop at s)))) (at + length (leading_digits (drop at s)))
    same = rw (val, end) refl

    pub answer_many : at + 1 < e → (get_or s at 0 ≡ 48 → ⊥) → number v e ≡ number_at s at
    unfolding number_at
    answer_many h k = same ∙ sym (number_many (leading_digits (drop at s)) at (omega arith) (λ q. k (sym (leading_first s at (omega arith)) ∙ q)))

    pub answer_one : (e ≡ at → ⊥) → e ≤ at + 1 → number v e ≡ number_at s at
    unfolding number_at
    answer_one h k = same ∙ sym (number_one (leading_digits (drop at s)) at (omega arith) (omega arith))

-- what an answer says of the digits
pub number_bad : (s : List ℕ) (at : ℕ) → number_at s at ≡ None → canonical (leading_digits (drop at s)) ≡ false
unfolding number_at number_of
number_bad s at = go (canonical (leading_digits (drop at s)))
  where
    go : (t : Bool) → cond t (number (min read_cap (value_of 0 (leading_digits (drop at s)))) (at + length (leading_digits (drop at s)))) None ≡ None → t ≡ false
    go true e = cc
    go false e = refl

pub record IsNumber (s : List ℕ) (at v e : ℕ) : Type 0 where
  pub shape : canonical (leading_digits (drop at s)) ≡ true
  pub value : v ≡ min read_cap (value_of 0 (leading_digits (drop at s)))
  pub end : e ≡ at + length (leading_digits (drop at s))

picked : (t : Bool) (x y v e : ℕ) → cond t (number x y) None ≡ number v e → (t ≡ true) × ((v ≡ x) × (e ≡ y))
picked true x y v e p = let same = sym (same_Some _ _ p) in (refl, (ap (λ (n : Number). n.value) same, ap (λ (n : Number). n.next) same))
picked false x y v e p = (cc, (cc, cc))

pub number_value : (s : List ℕ) (at v e : ℕ) → number_at s at ≡ number v e → IsNumber s at v e
unfolding number_at number_of
number_value s at v e q =
    let p = picked (canonical (leading_digits (drop at s))) (min read_cap (value_of 0 (leading_digits (drop at s)))) (at + length (leading_digits (drop at s))) v e q in
    record { shape = p.0; value = p.1.0; end = p.1.1 }
