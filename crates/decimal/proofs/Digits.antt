-- The digits of a number: how many they are, their value, and that the numbers without leading zeros are those.
use Prim.Native.Nat.{ℕ, zero, suc, ◌+◌, ◌-◌, ◌*◌, ◌/◌, ◌%◌, ◌^◌, ◌≤◌, ◌<◌}
use native.Mathlib.Nat.{div-lt_iff_lt-mul, pow-suc}
use native.Mathlib.Numerals.{add-one}
use native.Mathlib.Decide.{dec_lt}
use native.Mathlib.Omega.{arith}
use mathlib.Core.Path.{◌≡◌, refl, sym, ap, ◌∙◌}
use mathlib.Core.Bool.{Bool, true, false, not, ◌&&◌}
use mathlib.Core.List.{List, [], ◌∷◌, ◌++◌, append_assoc, append-nil}
use lib.ListN.{length, get_or, length-append, get_or-append}
use lib.Dec.{eqb, leb}
use borrow.Author.Tests.{ne_eqb, le-ltb, lt-ltb, le-leb, leb-true, eqb-false, not-true}
use Rattle.decimal.specs.Decimal.{is_digit, value_of, canonical, all_digits, numeral, digits, digits_by}

-- ---- the two clauses of `digits`

by_small : (k n : ℕ) → n < 10 → digits_by (suc k) n ≡ (48 + n) ∷ []
unfolding digits_by
by_small k n h = simp (lt-ltb n 10 h)

by_large : (k n : ℕ) → 10 ≤ n → digits_by (suc k) n ≡ digits_by k (n / 10) ++ ((48 + n % 10) ∷ [])
unfolding digits_by
by_large k n h = simp (le-ltb n 10 h)

-- more than n steps change nothing
by_enough : (j k n : ℕ) → n ≤ j → n ≤ k → digits_by (suc j) n ≡ digits_by (suc k) n
by_enough zero k n h l = by_small zero n (omega arith) ∙ sym (by_small k n (omega arith))
by_enough (suc j) zero n h l = by_small (suc j) n (omega arith) ∙ sym (by_small zero n (omega arith))
by_enough (suc j) (suc k) n h l = go (dec_lt n 10) (by_enough j k (n / 10))
  where
    go : Dec (n < 10) → (n / 10 ≤ j → n / 10 ≤ k → digits_by (suc j) (n / 10) ≡ digits_by (suc k) (n / 10)) → digits_by (suc (suc j)) n ≡ digits_by (suc (suc k)) n
    go (yes s) rec = by_small (suc j) n s ∙ sym (by_small (suc k) n s)
    go (no s) rec =
        let m : 10 ≤ n = omega (arith, s) in
        by_large (suc j) n m ∙ ap (λ (x : List ℕ). x ++ ((48 + n % 10) ∷ [])) (rec (omega arith) (omega arith)) ∙ sym (by_large (suc k) n m)

pub digits_small : (n : ℕ) → n < 10 → digits n ≡ (48 + n) ∷ []
unfolding digits
digits_small n h = by_small n n h

pub digits_large : (n : ℕ) → 10 ≤ n → digits n ≡ digits (n / 10) ++ ((48 + n % 10) ∷ [])
unfolding digits
digits_large zero h = absurd (omega arith)
digits_large (suc n) h =
    by_large (suc n) (suc n) h
    ∙ ap (λ (x : List ℕ). x ++ ((48 + suc n % 10) ∷ [])) (by_enough n (suc n / 10) (suc n / 10) (omega arith) (omega arith))

-- induction by the digits
module _ (P : ℕ → Type 0) (small : (n : ℕ) → n < 10 → P n) (large : (n : ℕ) → 10 ≤ n → P (n / 10) → P n) where
  dec_by : (k n : ℕ) → n ≤ k → P n
  dec_by zero n h = small n (omega arith)
  dec_by (suc k) n h = go (dec_lt n 10) (dec_by k (n / 10))
    where
      go : Dec (n < 10) → (n / 10 ≤ k → P (n / 10)) → P n
      go (yes s) rec = small n s
      go (no s) rec = large n (omega (arith, s)) (rec (omega (arith, s)))

  pub dec_ind : (n : ℕ) → P n
  dec_ind n = dec_by n n (omega arith)

-- ---- how many digits

length_snoc : (a : List ℕ) (d : ℕ) → length (a ++ (d ∷ [])) ≡ suc (length a)
length_snoc a d = length-append a (d ∷ []) ∙ add-one (length a)

pub width_small : (n : ℕ) → n < 10 → length (digits n) ≡ 1
width_small n h = ap length (digits_small n h)

pub width_large : (n : ℕ) → 10 ≤ n → length (digits n) ≡ suc (length (digits (n / 10)))
width_large n h = ap length (digits_large n h) ∙ length_snoc (digits (n / 10)) (48 + n % 10)

-- n is below 10 to the k + 1: it has at most k + 1 digits
pub width_below : (k n : ℕ) → n < 10 ^ suc k → length (digits n) ≤ suc k
width_below zero n h = omega (arith, width_small n h)
width_below (suc k) n h = go (dec_lt n 10) (width_below k (n / 10))
  where
    go : Dec (n < 10) → (n / 10 < 10 ^ suc k → length (digits (n / 10)) ≤ suc k) → length (digits n) ≤ suc (suc k)
    go (yes s) rec = omega (arith, width_small n s)
    go (no s) rec = omega (arith, width_large n (omega (arith, s)), rec ((div-lt_iff_lt-mul {k = 10} {x = n} {y = 10 ^ suc k} (omega arith)).1 (rw pow-suc at h)))

-- ---- k digits, with leading zeros

abbrev pub fixed : ℕ → ℕ → List ℕ
fixed zero n = []
fixed (suc k) n = fixed k (n / 10) ++ ((48 + n % 10) ∷ [])

pub digits_fixed : (n : ℕ) → digits n ≡ fixed (length (digits n)) n
digits_fixed = dec_ind (λ (n : ℕ). digits n ≡ fixed (length (digits n)) n)
    (λ n h. let e : n % 10 ≡ n = omega arith in rw (width_small n h, e) (digits_small n h))
    (λ n h rec. rw (width_large n h) (digits_large n h ∙ ap (λ (x : List ℕ). x ++ ((48 + n % 10) ∷ [])) rec))

-- ---- the value of the digits

pub value_append : (v : ℕ) (a b : List ℕ) → value_of v (a ++ b) ≡ value_of (value_of v a) b
value_append v [] b = refl
value_append v (d ∷ a) b = value_append (v * 10 + (d - 48)) a b

pub value_digits : (n : ℕ) → value_of 0 (digits n) ≡ n
value_digits = dec_ind (λ (n : ℕ). value_of 0 (digits n) ≡ n)
    (λ n h. ap (value_of 0) (digits_small n h) ∙ omega arith)
    (λ n h rec.
    ap (value_of 0) (digits_large n h) ∙ value_append 0 (digits (n / 10)) ((48 + n % 10) ∷ [])
    ∙ ap (λ (v : ℕ). v * 10 + (48 + n % 10 - 48)) rec ∙ omega arith)

-- ---- the digits are a numeral

digit_byte : (d : ℕ) → d < 10 → is_digit (48 + d) ≡ true
digit_byte d h = simp (le-leb 48 (48 + d) (omega arith), le-leb (48 + d) 57 (omega arith))

pub all_append : (a b : List ℕ) → all_digits a ≡ true → all_digits b ≡ true → all_digits (a ++ b) ≡ true
all_append [] b h k = k
all_append (x ∷ a) b h k = go (is_digit x) h (all_append a b)
  where
    go : (t : Bool) → (t && all_digits a) ≡ true → (all_digits a ≡ true → all_digits b ≡ true → all_digits (a ++ b) ≡ true) → (t && all_digits (a ++ b)) ≡ true
    go true h rec = rec h k
    go false h rec = h

pub digits_all : (n : ℕ) → all_digits (digits n) ≡ true
digits_all = dec_ind (λ (n : ℕ). all_digits (digits n) ≡ true)
    (λ n h. ap all_digits (digits_small n h) ∙ simp (digit_byte n h))
    (λ n h rec. ap all_digits (digits_large n h) ∙ all_append (digits (n / 10)) ((48 + n % 10) ∷ []) rec (simp (digit_byte (n % 10) (omega arith))))

abbrev Lead : ℕ → Type 0
Lead n = (0 < length (digits n)) × (0 < n → get_or (digits n) 0 0 ≡ 48 → ⊥)

pub lead : (n : ℕ) → Lead n
lead = dec_ind Lead
    (λ n h. (omega (arith, width_small n h), λ p q. let e : 48 + n ≡ 48 = ap (λ (l : List ℕ). get_or l 0 0) (sym (digits_small n h)) ∙ q in omega arith))
    (λ n h rec. (
      omega (arith, width_large n h),
      λ p q. rec.1 (omega arith) (sym (get_or-append (digits (n / 10)) ((48 + n % 10) ∷ []) 0 0 rec.0) ∙ ap (λ (l : List ℕ). get_or l 0 0) (sym (digits_large n h)) ∙ q),
    ))

snoc_canonical : (ds : List ℕ) (d : ℕ) → 0 < length ds → (get_or ds 0 0 ≡ 48 → ⊥) → canonical (ds ++ (d ∷ [])) ≡ true
snoc_canonical [] d h k = absurd (omega arith)
snoc_canonical (x ∷ []) d h k = simp (ne_eqb x 48 k)
snoc_canonical (x ∷ y ∷ ds) d h k = simp (ne_eqb x 48 k)

pub canonical_digits : (n : ℕ) → canonical (digits n) ≡ true
canonical_digits n = go (dec_lt n 10)
  where
    go : Dec (n < 10) → canonical (digits n) ≡ true
    go (yes s) = ap canonical (digits_small n s)
    go (no s) =
        ap canonical (digits_large n (omega (arith, s)))
        ∙ snoc_canonical (digits (n / 10)) (48 + n % 10) (lead (n / 10)).0 ((lead (n / 10)).1 (omega (arith, s)))

pub numeral_digits : (n : ℕ) → numeral (digits n) ≡ true
numeral_digits n = simp (digits_all n, canonical_digits n)

-- ---- a numeral is the digits of its value

pub and_true : (a b : Bool) → (a && b) ≡ true → (a ≡ true) × (b ≡ true)
and_true true b e = (refl, e)
and_true false b e = (e, absurd (let z : ◌≡◌ {A = ℕ} 0 1 = cc in omega arith))

pub digit_range : (d : ℕ) → is_digit d ≡ true → (48 ≤ d) × (d ≤ 57)
digit_range d e = let p = and_true (leb 48 d) (leb d 57) e in (leb-true 48 d p.0, leb-true d 57 p.1)

-- one digit more at the end
digits_snoc : (v d : ℕ) → 0 < v → is_digit d ≡ true → digits (v * 10 + (d - 48)) ≡ digits v ++ (d ∷ [])
digits_snoc v d h e =
    let b = digit_range d e in
    let q : (v * 10 + (d - 48)) / 10 ≡ v = omega arith in
    let r : 48 + (v * 10 + (d - 48)) % 10 ≡ d = omega arith in
    digits_large (v * 10 + (d - 48)) (omega arith) ∙ ap (λ (x : ℕ). digits x ++ ((48 + (v * 10 + (d - 48)) % 10) ∷ [])) q ∙ ap (λ (x : ℕ). digits v ++ (x ∷ [])) r

grow : (v : ℕ) (ds : List ℕ) → 0 < v → all_digits ds ≡ true → digits (value_of v ds) ≡ digits v ++ ds
grow v [] h a = sym (append-nil (digits v))
grow v (d ∷ ds) h a =
    let p = and_true (is_digit d) (all_digits ds) a in
    grow (v * 10 + (d - 48)) ds (omega arith) p.1
    ∙ ap (λ (x : List ℕ). x ++ ds) (digits_snoc v d h p.0)
    ∙ append_assoc (digits v) (d ∷ []) ds

one_digit : (d : ℕ) → is_digit d ≡ true → digits (0 * 10 + (d - 48)) ≡ d ∷ []
one_digit d e =
    let b = digit_range d e in
    let r : 48 + (0 * 10 + (d - 48)) ≡ d = omega arith in
    digits_small (0 * 10 + (d - 48)) (omega arith) ∙ ap (λ (x : ℕ). x ∷ []) r

pub digits_value : (f : List ℕ) → numeral f ≡ true → digits (value_of 0 f) ≡ f
digits_value [] e = absurd (let z : ◌≡◌ {A = ℕ} 0 1 = cc in omega arith)
digits_value (d ∷ []) e = one_digit d (and_true (is_digit d) true (and_true (is_digit d && true) true e).0).0
digits_value (d ∷ x ∷ ds) e =
    let p = and_true (all_digits (d ∷ x ∷ ds)) (not (eqb d 48)) e in
    let a = and_true (is_digit d) (all_digits (x ∷ ds)) p.0 in
    let b = digit_range d a.0 in
    let k = eqb-false d 48 (not-true (eqb d 48) p.1) in
    grow (0 * 10 + (d - 48)) (x ∷ ds) (omega (arith, k)) a.1 ∙ ap (λ (l : List ℕ). l ++ (x ∷ ds)) (one_digit d a.0)
