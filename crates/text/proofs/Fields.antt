-- What the reader of one value answers, by the bytes that stand at its place.
use Prim.Native.Nat.{ℕ, suc, ◌+◌, ◌≤◌, ◌<◌}
use native.Mathlib.Numerals.{add-one}
use native.Mathlib.Decide.{dec_lt, ℕ_discrete}
use native.Mathlib.Omega.{arith}
use mathlib.Core.Path.{◌≡◌, refl, sym, ap, subst, ◌∙◌}
use mathlib.Core.Bool.{Bool, true, false, not, ◌&&◌, ◌||◌, cond}
use mathlib.Core.List.{List, [], ◌∷◌}
use lib.ListN.{length, drop, get_or, length-drop, drop_of_length-le}
use lib.Seq.{drop-cons, get_or-drop}
use lib.Dec.{leb, eqb}
use borrow.Author.Tests.{eq-eqb, ne_eqb, eqb-true, leb-true}
use Rattle.std.specs.Prelude.{None}
use Rattle.decimal.specs.Decimal.{is_digit, canonical, all_digits}
use Rattle.decimal.specs.NumberRead.{keep_if, leading_digits, number, number_at}
use Rattle.decimal.proofs.NumberRead.{number_bad, number_value}
use Rattle.decimal.proofs.Numerals.{all_run}
use Rattle.text.specs.Forms.{byte_is}
use Rattle.text.specs.Scan.{Scan, cut, last, more, wider, by_byte, scan, no_field, some_field, head_ended, ended_at, head_field, field_at}

-- ---- bytes

and_left : (a b : Bool) → (a && b) ≡ true → a ≡ true
and_left true b e = refl
and_left false b e = e

-- a digit is no byte below 48
digit_not : (b x : ℕ) → is_digit b ≡ true → x < 48 → eqb b x ≡ false
digit_not b x e h = ne_eqb b x (λ q. let w = leb-true 48 b (and_left (leb 48 b) (leb b 57) e) in omega arith)

-- ---- the fields of a text that begins with digits

scan_digit : (b : ℕ) (t : List ℕ) → is_digit b ≡ true → scan (b ∷ t) ≡ wider b (scan t)
scan_digit b t e = simp (digit_not b 10 e (omega arith), digit_not b 44 e (omega arith))

-- nothing follows the digits
pub scan_cut : (t : List ℕ) → length t ≤ length (leading_digits t) → scan t ≡ cut
scan_cut [] h = refl
scan_cut (b ∷ t) h = go (is_digit b) refl (scan_cut t) h
  where
    go : (d : Bool) → is_digit b ≡ d → (length t ≤ length (leading_digits t) → scan t ≡ cut) → suc (length t) ≤ length (keep_if d b (leading_digits t)) → scan (b ∷ t) ≡ cut
    go true e rec k = scan_digit b t e ∙ ap (wider b) (rec (omega arith))
    go false e rec k = absurd (omega arith)

-- byte 10 follows the digits
pub scan_last : (t : List ℕ) → length (leading_digits t) < length t → get_or t (length (leading_digits t)) 0 ≡ 10 → scan t ≡ last (leading_digits t)
scan_last [] h k = absurd (omega arith)
scan_last (b ∷ t) h k = go (is_digit b) refl (scan_last t) h k
  where
    go : (d : Bool) → is_digit b ≡ d → (length (leading_digits t) < length t → get_or t (length (leading_digits t)) 0 ≡ 10 → scan t ≡ last (leading_digits t))
        → length (keep_if d b (leading_digits t)) < suc (length t) → get_or (b ∷ t) (length (keep_if d b (leading_digits t))) 0 ≡ 10 → scan (b ∷ t) ≡ last (keep_if d b (leading_digits t))
    go true e rec h k = scan_digit b t e ∙ ap (wider b) (rec (omega arith) k)
    go false e rec h k = simp (eq-eqb b 10 k)

-- a comma follows the digits
pub scan_more : (t : List ℕ) → length (leading_digits t) < length t → get_or t (length (leading_digits t)) 0 ≡ 44 → scan t ≡ more (leading_digits t) (scan (drop (suc (length (leading_digits t))) t))
scan_more [] h k = absurd (omega arith)
scan_more (b ∷ t) h k = go (is_digit b) refl (scan_more t) h k
  where
    go : (d : Bool) → is_digit b ≡ d → (length (leading_digits t) < length t → get_or t (length (leading_digits t)) 0 ≡ 44 → scan t ≡ more (leading_digits t) (scan (drop (suc (length (leading_digits t))) t)))
        → length (keep_if d b (leading_digits t)) < suc (length t) → get_or (b ∷ t) (length (keep_if d b (leading_digits t))) 0 ≡ 44 → scan (b ∷ t) ≡ more (keep_if d b (leading_digits t)) (scan (drop (suc (length (keep_if d b (leading_digits t)))) (b ∷ t)))
    go true e rec h k = scan_digit b t e ∙ ap (wider b) (rec (omega arith) k)
    go false e rec h k = simp (ne_eqb b 10 (λ q. omega arith), eq-eqb b 44 k)

-- whether the first field is all digits
abbrev head_digits : Scan → Bool
head_digits cut = false
head_digits (last f) = all_digits f
head_digits (more f g) = all_digits f

head_wider : (b : ℕ) (g : Scan) → head_digits (wider b g) ≡ (is_digit b && head_digits g)
head_wider b cut = go (is_digit b)
  where
    go : (d : Bool) → false ≡ (d && false)
    go true = refl
    go false = refl
head_wider b (last f) = refl
head_wider b (more f g) = refl

-- another byte follows the digits
pub scan_other : (t : List ℕ) → (get_or t (length (leading_digits t)) 0 ≡ 10 → ⊥) → (get_or t (length (leading_digits t)) 0 ≡ 44 → ⊥) → head_digits (scan t) ≡ false
scan_other [] h k = refl
scan_other (b ∷ t) h k = go (is_digit b) refl (scan_other t) h k
  where
    go : (d : Bool) → is_digit b ≡ d → ((get_or t (length (leading_digits t)) 0 ≡ 10 → ⊥) → (get_or t (length (leading_digits t)) 0 ≡ 44 → ⊥) → head_digits (scan t) ≡ false)
        → (get_or (b ∷ t) (length (keep_if d b (leading_digits t))) 0 ≡ 10 → ⊥) → (get_or (b ∷ t) (length (keep_if d b (leading_digits t))) 0 ≡ 44 → ⊥) → head_digits (scan (b ∷ t)) ≡ false
    go true e rec h k = ap head_digits (scan_digit b t e) ∙ head_wider b (scan t) ∙ simp (e, rec h k)
    go false e rec h k = simp (ne_eqb b 10 h, ne_eqb b 44 k, head_wider b (scan t), e)

-- ---- one field

head_broken : (minus : Bool) (g : Scan) (at : ℕ) → head_digits g ≡ false → head_ended minus g at ≡ no_field
unfolding head_ended
head_broken minus cut at e = refl
head_broken minus (last f) at e = simp e
head_broken minus (more f g) at e = simp e

-- the byte after the digits, in the whole text
byte_after : (s : List ℕ) (at e : ℕ) → e ≡ at + length (leading_digits (drop at s)) → get_or s e 0 ≡ get_or (drop at s) (length (leading_digits (drop at s))) 0
byte_after s at e q = rw q (sym (get_or-drop at s (length (leading_digits (drop at s))) 0))

within_part : (s : List ℕ) (at e n : ℕ) → e ≡ at + n → e < length s → n < length (drop at s)
within_part s at e n q h = omega (arith, length-drop at s)

past_part : (s : List ℕ) (at e n : ℕ) → e ≡ at + n → length s ≤ e → length (drop at s) ≤ n
past_part s at e n q h = omega (arith, length-drop at s)

-- what `ended` answers at each return
module _ (s : List ℕ) (at : ℕ) (minus : Bool) where
  -- no numeral without leading zeros: so is the first field, whatever ends it
  pub ended_bad : number_at s at ≡ None → no_field ≡ ended_at s at minus
  unfolding ended_at head_ended
  ended_bad q = sym (go (drop at s) (number_bad s at q))
    where
      other : (t : List ℕ) → canonical (leading_digits t) ≡ false → Dec (get_or t (length (leading_digits t)) 0 ≡ 10) → Dec (get_or t (length (leading_digits t)) 0 ≡ 44) → Dec (length (leading_digits t) < length t) → head_ended minus (scan t) at ≡ no_field
      other t e x y (no h) = ap (λ (g : Scan). head_ended minus g at) (scan_cut t (omega (arith, h)))
      other t e (yes a) y (yes h) = ap (λ (g : Scan). head_ended minus g at) (scan_last t h a) ∙ simp (all_run t, e)
      other t e (no a) (yes b) (yes h) = ap (λ (g : Scan). head_ended minus g at) (scan_more t h b) ∙ simp (all_run t, e)
      other t e (no a) (no b) (yes h) = head_broken minus (scan t) at (scan_other t a b)

      go : (t : List ℕ) → canonical (leading_digits t) ≡ false → head_ended minus (scan t) at ≡ no_field
      go t e = other t e (ℕ_discrete (get_or t (length (leading_digits t)) 0) 10) (ℕ_discrete (get_or t (length (leading_digits t)) 0) 44) (dec_lt (length (leading_digits t)) (length t))

  module _ (v e : ℕ) (q : number_at s at ≡ number v e) where
    pub ended_cut : length s ≤ e → no_field ≡ ended_at s at minus
    unfolding ended_at head_ended
    ended_cut h =
        let n = number_value s at v e q in
        sym (ap (λ (g : Scan). head_ended minus g at) (scan_cut (drop at s) (past_part s at e _ n.end h)))

    pub ended_last : e < length s → get_or s e 0 ≡ 10 → some_field v minus (e + 1) true ≡ ended_at s at minus
    unfolding ended_at head_ended
    ended_last h k =
        let n = number_value s at v e q in
        sym (ap (λ (g : Scan). head_ended minus g at) (scan_last (drop at s) (within_part s at e _ n.end h) (sym (byte_after s at e n.end) ∙ k))
        ∙ simp (all_run (drop at s), n.shape, ← n.end, ← n.value))

    pub ended_more : e < length s → get_or s e 0 ≡ 44 → some_field v minus (e + 1) false ≡ ended_at s at minus
    unfolding ended_at head_ended
    ended_more h k =
        let n = number_value s at v e q in
        sym (ap (λ (g : Scan). head_ended minus g at) (scan_more (drop at s) (within_part s at e _ n.end h) (sym (byte_after s at e n.end) ∙ k))
        ∙ simp (all_run (drop at s), n.shape, ← n.end, ← n.value))

    pub ended_other : (get_or s e 0 ≡ 10 → ⊥) → (get_or s e 0 ≡ 44 → ⊥) → no_field ≡ ended_at s at minus
    unfolding ended_at
    ended_other h k =
        let n = number_value s at v e q in
        sym (head_broken minus (scan (drop at s)) at (scan_other (drop at s) (λ p. h (byte_after s at e n.end ∙ p)) (λ p. k (byte_after s at e n.end ∙ p))))

-- ---- a field that may have a sign

pub byte_at : (s : List ℕ) (at b : ℕ) → at < length s → eqb (get_or s at 0) b ≡ byte_is (drop at s) b
byte_at s at b h = rw (drop-cons s at 0 h) refl

pub byte_past : (s : List ℕ) (at b : ℕ) → length s ≤ at → false ≡ byte_is (drop at s) b
byte_past s at b h = rw (drop_of_length-le s h) refl

byte_within : (t : List ℕ) (b : ℕ) → byte_is t b ≡ true → 0 < length t
byte_within [] b e = absurd (let z : ◌≡◌ {A = ℕ} 0 1 = cc in omega arith)
byte_within (x ∷ t) b e = omega arith

pub byte_inside : (s : List ℕ) (at b : ℕ) → byte_is (drop at s) b ≡ true → at < length s
byte_inside s at b e = omega (arith, byte_within (drop at s) b e, length-drop at s)

-- the first field begins with the byte x where v is true
abbrev HeadIs : ℕ → Bool → Scan → Type 0
HeadIs x v cut = Unit {0}
HeadIs x v (last f) = byte_is f x ≡ v
HeadIs x v (more f g) = byte_is f x ≡ v

-- the first field begins as the text does
head_is : (t : List ℕ) (x : ℕ) → (x ≡ 10 → ⊥) → (x ≡ 44 → ⊥) → HeadIs x (byte_is t x) (scan t)
head_is [] x h k = tt
head_is (b ∷ t) x h k = go (eqb b 10) (eqb b 44) refl refl (scan t)
  where
    go : (p q : Bool) → eqb b 10 ≡ p → eqb b 44 ≡ q → (g : Scan) → HeadIs x (eqb b x) (by_byte p q b g)
    go true q e e' g = sym (ne_eqb b x (λ w. h (sym w ∙ eqb-true b 10 e)))
    go false true e e' g = sym (ne_eqb b x (λ w. k (sym w ∙ eqb-true b 44 e')))
    go false false e e' cut = tt
    go false false e e' (last f) = refl
    go false false e e' (more f g) = refl

head_plain : (signed : Bool) (g : Scan) (at : ℕ) → HeadIs 45 false g → head_ended false g at ≡ head_field signed g at
unfolding head_ended head_field
head_plain signed cut at h = refl
head_plain signed (last f) at h = simp h
head_plain signed (more f g) at h = simp h

shift : (at n : ℕ) → at + 1 + n + 1 ≡ at + suc n + 1
shift at n = omega arith

head_minus : (v : Bool) (g : Scan) (at : ℕ) → HeadIs 48 v g → cond (not v) (head_ended true g (at + 1)) no_field ≡ head_field true (wider 45 g) at
unfolding head_ended head_field
head_minus true cut at h = refl
head_minus true (last f) at h = simp h
head_minus true (more f g) at h = simp h
head_minus false cut at h = refl
head_minus false (last f) at h = simp (h, shift)
head_minus false (more f g) at h = simp (h, shift)

head_unsigned : (g : Scan) (at : ℕ) → no_field ≡ head_field false (wider 45 g) at
unfolding head_field
head_unsigned cut at = refl
head_unsigned (last f) at = refl
head_unsigned (more f g) at = refl

-- a text that begins with a minus
minus_scan : (s : List ℕ) (at : ℕ) → byte_is (drop at s) 45 ≡ true → scan (drop at s) ≡ wider 45 (scan (drop (at + 1) s))
minus_scan s at e =
    let h = byte_inside s at 45 e in
    let b : get_or s at 0 ≡ 45 = eqb-true (get_or s at 0) 45 (byte_at s at 45 h ∙ e) in
    rw (drop-cons s at 0 h, b, add-one) refl

-- what `read_field` answers at each return
module _ (s : List ℕ) (at : ℕ) where
  pub field_plain : (signed : Bool) → byte_is (drop at s) 45 ≡ false → ended_at s at false ≡ field_at s at signed
  unfolding ended_at field_at
  field_plain signed e =
      head_plain signed (scan (drop at s)) at
      (subst (λ (v : Bool). HeadIs 45 v (scan (drop at s))) e (head_is (drop at s) 45 (λ q. omega arith) (λ q. omega arith)))

  module _ (e : byte_is (drop at s) 45 ≡ true) where
    head_of : (v : Bool) → byte_is (drop (at + 1) s) 48 ≡ v → cond (not v) (head_ended true (scan (drop (at + 1) s)) (at + 1)) no_field ≡ head_field true (scan (drop at s)) at
    head_of v d =
        head_minus v (scan (drop (at + 1) s)) at
        (subst (λ (w : Bool). HeadIs 48 w (scan (drop (at + 1) s))) d (head_is (drop (at + 1) s) 48 (λ q. omega arith) (λ q. omega arith)))
        ∙ ap (λ (g : Scan). head_field true g at) (sym (minus_scan s at e))

    pub field_barred : (signed : Bool) → (not signed || byte_is (drop (at + 1) s) 48) ≡ true → no_field ≡ field_at s at signed
    unfolding field_at
    field_barred true d = head_of true d
    field_barred false d = head_unsigned (scan (drop (at + 1) s)) at ∙ ap (λ (g : Scan). head_field false g at) (sym (minus_scan s at e))

    pub field_minus : (signed : Bool) → (not signed || byte_is (drop (at + 1) s) 48) ≡ false → ended_at s (at + 1) true ≡ field_at s at signed
    unfolding ended_at field_at
    field_minus true d = head_of false d
    field_minus false d = cc
