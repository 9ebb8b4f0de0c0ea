-- A value that is formed is a number as it is shown, and a number as it is shown is formed: one value, and then a row of them.
use Prim.Native.Nat.{ℕ, zero, suc, ◌+◌, ◌-◌, ◌≤◌, ◌<◌}
use native.Mathlib.Omega.{arith}
use mathlib.Core.Path.{◌≡◌, refl, sym, ap, subst, ◌∙◌}
use mathlib.Core.Bool.{Bool, true, false, not, ◌&&◌, ◌||◌, cond}
use mathlib.Core.List.{List, [], ◌∷◌}
use lib.ListN.{length, drop, get_or}
use lib.Dec.{eqb}
use borrow.Author.Tests.{ne_eqb, eqb-true, eqb-false, not-true}
use Rattle.decimal.specs.Decimal.{is_digit, value_of, all_digits, numeral, digits}
use Rattle.decimal.proofs.Digits.{digits_all, numeral_digits, value_digits, digits_value, digits_small, digit_range, lead}
use Rattle.text.specs.Forms.{byte_is, has_minus, formed, all_formed, size, sizes, any_minus}
use Rattle.text.specs.Rendering.{shown, all_shown}
use Rattle.text.proofs.Cuts.{and_both}

-- ---- one value

no_minus : (f : List ℕ) → all_digits f ≡ true → has_minus f ≡ false
no_minus [] e = refl
no_minus (b ∷ f) e =
    let w = digit_range b (and_both (is_digit b) (all_digits f) e).0 in
    ne_eqb b 45 (λ z. omega arith)

pub minus_shown : (neg : Bool) (v : ℕ) → has_minus (shown neg v) ≡ neg
minus_shown true v = refl
minus_shown false v = no_minus (digits v) (digits_all v)

pub size_shown : (neg : Bool) (v : ℕ) → size (shown neg v) ≡ v
size_shown true v = value_digits v
size_shown false v = simp (no_minus (digits v) (digits_all v)) (value_digits v)

first_digit : (f : List ℕ) → (get_or f 0 0 ≡ 48 → ⊥) → byte_is f 48 ≡ false
first_digit [] k = refl
first_digit (b ∷ f) k = ne_eqb b 48 k

-- a number is formed, and one other than 0 also behind a minus where that may stand
pub formed_shown : (signed neg : Bool) (v : ℕ) → (neg ≡ true → (signed ≡ true) × (0 < v)) → formed signed (shown neg v) ≡ true
formed_shown signed true v h = simp ((h refl).0, first_digit (digits v) ((lead v).1 (h refl).1), numeral_digits v)
formed_shown signed false v h = simp (no_minus (digits v) (digits_all v), numeral_digits v)

-- a formed value is the number that it shows
pub shown_formed : (signed : Bool) (f : List ℕ) → formed signed f ≡ true → f ≡ shown (has_minus f) (size f)
shown_formed signed [] e = absurd (let z : ◌≡◌ {A = ℕ} 0 1 = cc in omega arith)
shown_formed signed (b ∷ f) e = go (eqb b 45) refl e
  where
    go : (t : Bool) → eqb b 45 ≡ t → cond t (signed && (not (byte_is f 48) && numeral f)) (numeral (b ∷ f)) ≡ true → b ∷ f ≡ shown t (value_of 0 (cond t f (b ∷ f)))
    go true q e =
        let p = and_both signed (not (byte_is f 48) && numeral f) e in
        let r = and_both (not (byte_is f 48)) (numeral f) p.1 in
        λ i. eqb-true b 45 q i ∷ sym (digits_value f r.1) i
    go false q e = sym (digits_value (b ∷ f) e)

-- a minus stands only where it may, and before a number other than 0
pub minus_formed : (signed : Bool) (f : List ℕ) → formed signed f ≡ true → has_minus f ≡ true → (signed ≡ true) × (0 < size f)
minus_formed signed f e m =
    let w : (signed && (not (byte_is (drop 1 f) 48) && numeral (drop 1 f))) ≡ true = ap (λ (t : Bool). cond t (signed && (not (byte_is (drop 1 f) 48) && numeral (drop 1 f))) (numeral f)) (sym m) ∙ e in
    let p = and_both signed (not (byte_is (drop 1 f) 48) && numeral (drop 1 f)) w in
    let r = and_both (not (byte_is (drop 1 f) 48)) (numeral (drop 1 f)) p.1 in
    let z : size f ≡ value_of 0 (drop 1 f) = ap (λ (t : Bool). value_of 0 (cond t (drop 1 f) f)) m in
    (p.0, subst (λ (n : ℕ). 0 < n) (sym z) (above (value_of 0 (drop 1 f)) refl r.0 r.1))
  where
    above : (n : ℕ) → value_of 0 (drop 1 f) ≡ n → not (byte_is (drop 1 f) 48) ≡ true → numeral (drop 1 f) ≡ true → 0 < n
    above (suc n) q a b = omega arith
    above zero q a b =
        let g : drop 1 f ≡ 48 ∷ [] = sym (digits_value (drop 1 f) b) ∙ ap digits q ∙ digits_small 0 (omega arith) in
        let y : byte_is (drop 1 f) 48 ≡ true = ap (λ (l : List ℕ). byte_is l 48) g in
        let x : byte_is (drop 1 f) 48 ≡ false = not-true (byte_is (drop 1 f) 48) a in
        absurd (let z : ◌≡◌ {A = ℕ} 0 1 = cc in omega arith)

-- ---- a row of values, of which the first has number k

pub sizes_shown : (m : ℕ) (neg : Bool) (k : ℕ) (vs : List ℕ) → sizes (all_shown m neg k vs) ≡ vs
sizes_shown m neg k [] = refl
sizes_shown m neg k (v ∷ vs) = λ i. size_shown (neg && eqb k m) v i ∷ sizes_shown m neg (suc k) vs i

pub length_shown : (m : ℕ) (neg : Bool) (k : ℕ) (vs : List ℕ) → length (all_shown m neg k vs) ≡ length vs
length_shown m neg k [] = refl
length_shown m neg k (v ∷ vs) = ap suc (length_shown m neg (suc k) vs)

-- number m, where it is among them, is above 0
abbrev pub Above : ℕ → ℕ → List ℕ → Type 0
Above m k vs = k ≤ m → m < k + length vs → 0 < get_or vs (m - k) 0

above_later : (m k v : ℕ) (vs : List ℕ) → Above m k (v ∷ vs) → Above m (suc k) vs
above_later m k v vs h a b =
    let e : m - k ≡ suc (m - suc k) = omega arith in
    rw e at (h (omega arith) (omega arith))

pub all_shown_formed : (m : ℕ) (neg : Bool) (k : ℕ) (vs : List ℕ) → (neg ≡ true → Above m k vs) → all_formed m k (all_shown m neg k vs) ≡ true
all_shown_formed m neg k [] h = refl
all_shown_formed m neg k (v ∷ vs) h = simp (formed_shown (eqb k m) (neg && eqb k m) v head, all_shown_formed m neg (suc k) vs (λ e. above_later m k v vs (h e)))
  where
    head : (neg && eqb k m) ≡ true → (eqb k m ≡ true) × (0 < v)
    head e =
        let p = and_both neg (eqb k m) e in
        let q : k ≡ m = eqb-true k m p.1 in
        let z : m - k ≡ 0 = omega arith in
        let w = h p.0 (omega arith) (omega arith) in
        (p.1, rw z at w)

any_off : (m k : ℕ) (vs : List ℕ) → any_minus (all_shown m false k vs) ≡ false
any_off m k [] = refl
any_off m k (v ∷ vs) = simp (minus_shown false v, any_off m (suc k) vs)

pub all_shown_minus : (m : ℕ) (neg : Bool) (k : ℕ) (vs : List ℕ) → (neg ≡ true → (k ≤ m) × (m < k + length vs)) → any_minus (all_shown m neg k vs) ≡ neg
all_shown_minus m false k vs h = any_off m k vs
all_shown_minus m true k [] h = absurd (let w = h refl in omega arith)
all_shown_minus m true k (v ∷ vs) h = go (eqb k m) refl (all_shown_minus m true (suc k) vs)
  where
    go : (t : Bool) → eqb k m ≡ t → ((true ≡ true → (suc k ≤ m) × (m < suc k + length vs)) → any_minus (all_shown m true (suc k) vs) ≡ true)
        → (has_minus (shown t v) || any_minus (all_shown m true (suc k) vs)) ≡ true
    go true e rec = refl
    go false e rec =
        let n = eqb-false k m e in
        let w = h refl in
        ap (λ (t : Bool). t || any_minus (all_shown m true (suc k) vs)) (minus_shown false v) ∙ rec (λ q. (omega (arith, n), omega arith))

-- ---- the other way

-- past number m no value has a minus
none_after : (m k : ℕ) (fs : List (List ℕ)) → m < k → all_formed m k fs ≡ true → any_minus fs ≡ false
none_after m k [] h e = refl
none_after m k (f ∷ fs) h e =
    let p = and_both (formed (eqb k m) f) (all_formed m (suc k) fs) e in
    go (has_minus f) refl p.0 (none_after m (suc k) fs (omega arith) p.1)
  where
    go : (t : Bool) → has_minus f ≡ t → formed (eqb k m) f ≡ true → any_minus fs ≡ false → (t || any_minus fs) ≡ false
    go false u w rec = rec
    go true u w rec =
        let q : k ≡ m = eqb-true k m (minus_formed (eqb k m) f w u).0 in
        absurd (omega arith)

shown_after : (m : ℕ) (neg : Bool) (k : ℕ) (vs : List ℕ) → m < k → all_shown m neg k vs ≡ all_shown m false k vs
shown_after m neg k [] h = refl
shown_after m neg k (v ∷ vs) h = λ i. shown (off neg i) v ∷ shown_after m neg (suc k) vs (omega arith) i
  where
    off : (t : Bool) → (t && eqb k m) ≡ false
    off true = ne_eqb k m (λ q. omega arith)
    off false = refl

-- values that are formed are the numbers that they show
pub all_formed_shown : (m k : ℕ) (fs : List (List ℕ)) → all_formed m k fs ≡ true → fs ≡ all_shown m (any_minus fs) k (sizes fs)
all_formed_shown m k [] e = refl
all_formed_shown m k (f ∷ fs) e =
    let p = and_both (formed (eqb k m) f) (all_formed m (suc k) fs) e in
    go (eqb k m) refl p.0 (all_formed_shown m (suc k) fs p.1) (none_after m (suc k) fs)
  where
    rest : (t : Bool) → eqb k m ≡ t → all_formed m (suc k) fs ≡ true
    rest t u = (and_both (formed (eqb k m) f) (all_formed m (suc k) fs) e).1

    go : (t : Bool) → eqb k m ≡ t → formed t f ≡ true → fs ≡ all_shown m (any_minus fs) (suc k) (sizes fs)
        → (m < suc k → all_formed m (suc k) fs ≡ true → any_minus fs ≡ false)
        → f ∷ fs ≡ shown ((has_minus f || any_minus fs) && t) (size f) ∷ all_shown m (has_minus f || any_minus fs) (suc k) (sizes fs)
    go true u w rec none =
        let q : k ≡ m = eqb-true k m u in
        let n : any_minus fs ≡ false = none (omega arith) (rest true u) in
        let a : has_minus f ≡ ((has_minus f || any_minus fs) && true) = sym (ap (λ (t : Bool). (has_minus f || t) && true) n ∙ simple (has_minus f)) in
        let b : fs ≡ all_shown m (has_minus f || any_minus fs) (suc k) (sizes fs) =
        rec ∙ shown_after m (any_minus fs) (suc k) (sizes fs) (omega arith) ∙ sym (shown_after m (has_minus f || any_minus fs) (suc k) (sizes fs) (omega arith)) in
        λ i. (shown_formed true f w ∙ ap (λ (t : Bool). shown t (size f)) a) i ∷ b i
      where
        simple : (t : Bool) → ((t || false) && true) ≡ t
        simple true = refl
        simple false = refl
    go false u w rec none =
        let n : has_minus f ≡ false = unsigned_value (has_minus f) refl in
        let a : has_minus f ≡ ((has_minus f || any_minus fs) && false) = n ∙ sym (off (has_minus f || any_minus fs)) in
        let b : fs ≡ all_shown m (has_minus f || any_minus fs) (suc k) (sizes fs) = rec ∙ ap (λ (t : Bool). all_shown m (t || any_minus fs) (suc k) (sizes fs)) (sym n) in
        λ i. (shown_formed false f w ∙ ap (λ (t : Bool). shown t (size f)) a) i ∷ b i
      where
        off : (t : Bool) → (t && false) ≡ false
        off true = refl
        off false = refl

        unsigned_value : (t : Bool) → has_minus f ≡ t → t ≡ false
        unsigned_value false v = refl
        unsigned_value true v = sym (minus_formed false f w v).0

-- where one has a minus, it is number m, and above 0
pub minus_carried : (m k : ℕ) (fs : List (List ℕ)) → all_formed m k fs ≡ true → any_minus fs ≡ true → (k ≤ m) × ((m < k + length fs) × (0 < get_or (sizes fs) (m - k) 0))
minus_carried m k [] e a = absurd (let z : ◌≡◌ {A = ℕ} 0 1 = cc in omega arith)
minus_carried m k (f ∷ fs) e a =
    let p = and_both (formed (eqb k m) f) (all_formed m (suc k) fs) e in
    go (has_minus f) refl p.0 a (minus_carried m (suc k) fs p.1)
  where
    go : (t : Bool) → has_minus f ≡ t → formed (eqb k m) f ≡ true → (t || any_minus fs) ≡ true
        → (any_minus fs ≡ true → (suc k ≤ m) × ((m < suc k + length fs) × (0 < get_or (sizes fs) (m - suc k) 0)))
        → (k ≤ m) × ((m < k + suc (length fs)) × (0 < get_or (size f ∷ sizes fs) (m - k) 0))
    go true u w a rec =
        let r = minus_formed (eqb k m) f w u in
        let q : k ≡ m = eqb-true k m r.0 in
        let z : m - k ≡ 0 = omega arith in
        (omega arith, (omega arith, rw z r.1))
    go false u w a rec =
        let r = rec a in
        let z : m - k ≡ suc (m - suc k) = omega arith in
        (omega arith, (omega arith, rw z r.1.1))
