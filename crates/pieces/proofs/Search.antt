-- The search for the next line that begins with e, byte by byte, and what it passes over: lines that do not begin end=.
use Prim.Native.Nat.{ℕ, zero, suc, ◌+◌, ◌-◌, ◌≤◌, ◌<◌}
use native.Mathlib.Numerals.{add-one}
use native.Mathlib.Omega.{arith}
use mathlib.Core.Path.{◌≡◌, refl, sym, ap, ◌∙◌}
use mathlib.Core.Bool.{Bool, true, false, not, ◌&&◌, and-false, and-true, cond}
use mathlib.Core.List.{List, [], ◌∷◌}
use lib.ListN.{length, take, drop, get_or}
use lib.Seq.{drop-cons, drop-drop}
use lib.Dec.{eqb, leb, leb-suc-zero, leb-suc-suc}
use borrow.Author.Tests.{le-leb, lt-leb}
use Rattle.text.specs.Lines.{due, lines_of, cut_at, begins}
use Rattle.text.specs.Forms.{byte_is}
use Rattle.text.proofs.Fields.{byte_at}
use Rattle.pieces.specs.Search.{without_e, to_e}
use Rattle.pieces.specs.Pieces.{end_key, line_bytes}
use Rattle.pieces.proofs.LineCuts.{longer_bytes}
use Rattle.pieces.proofs.Places.{line_size, piece_size, first_off}

-- ---- a part

-- one byte alone has nothing behind it
without_one : (b : ℕ) → without_e (b ∷ []) ≡ true
without_one b = simp (and-false (eqb b 10))

-- a byte and the one behind it, at the places i - 1 and i
pub without_on : (s : List ℕ) (i : ℕ) → 1 ≤ i → i < length s → without_e (drop (i - 1) s) ≡ (not (eqb (get_or s (i - 1) 0) 10 && eqb (get_or s i 0) 101) && without_e (drop i s))
without_on s zero h k = absurd (omega arith)
without_on s (suc j) h k =
    let e : suc j - 1 ≡ j = omega arith in
    rw (e, drop-cons s j 0 (omega arith)) (ap (λ (x : Bool). not (eqb (get_or s j 0) 10 && x) && without_e (drop (suc j) s)) (sym (byte_at s (suc j) 101 k)))

-- at the end of a part there is none
pub without_last : (s : List ℕ) (j : ℕ) → length s ≤ suc j → without_e (drop j s) ≡ true
without_last [] zero h = refl
without_last [] (suc j) h = refl
without_last (b ∷ []) zero h = without_one b
without_last (b ∷ c ∷ s) zero h = absurd (omega arith)
without_last (b ∷ s) (suc j) h = without_last s j (omega arith)

-- ---- how far the next one is

to_e_some : (b : ℕ) (t : List ℕ) → 1 ≤ to_e (b ∷ t)
to_e_some b t = go (eqb b 10 && byte_is t 101)
  where
    go : (x : Bool) → 1 ≤ cond x 1 (suc (to_e t))
    go true = omega arith
    go false = omega arith

pub to_e_most : (t : List ℕ) → to_e t ≤ length t
to_e_most [] = omega arith
to_e_most (b ∷ t) = go (eqb b 10 && byte_is t 101) (to_e_most t)
  where
    go : (x : Bool) → to_e t ≤ length t → cond x 1 (suc (to_e t)) ≤ suc (length t)
    go true h = omega arith
    go false h = omega arith

-- fewer than n bytes are not so far
pub part_short : (n : ℕ) (t : List ℕ) → length t < n → leb n (to_e t) ≡ false
part_short n t h = lt-leb n (to_e t) (omega (arith, to_e_most t))

-- among n + 1 bytes no byte 10 has an e behind it exactly where the next one is n + 1 bytes on or more
pub part_without : (n : ℕ) (t : List ℕ) → suc n ≤ length t → without_e (take (suc n) t) ≡ leb (suc n) (to_e t)
part_without n [] h = absurd (omega arith)
part_without zero (b ∷ t) h = without_one b ∙ sym (le-leb 1 (to_e (b ∷ t)) (to_e_some b t))
part_without (suc n) (b ∷ []) h = absurd (omega arith)
part_without (suc n) (b ∷ c ∷ t) h = go (eqb b 10 && eqb c 101) (part_without n (c ∷ t) (omega arith))
  where
    go : (x : Bool) → without_e (take (suc n) (c ∷ t)) ≡ leb (suc n) (to_e (c ∷ t))
        → (not x && without_e (take (suc n) (c ∷ t))) ≡ leb (suc (suc n)) (cond x 1 (suc (to_e (c ∷ t))))
    go true e = sym (leb-suc-suc (suc n) 0 ∙ leb-suc-zero n)
    go false e = e ∙ sym (leb-suc-suc (suc n) (to_e (c ∷ t)))

-- bytes before it are passed over
to_e_later : (n : ℕ) (t : List ℕ) → n ≤ to_e t - 1 → to_e t ≡ n + to_e (drop n t)
to_e_later zero t h = omega arith
to_e_later (suc n) [] h = absurd (omega arith)
to_e_later (suc n) (b ∷ t) h = go (eqb b 10 && byte_is t 101) (to_e_later n t) h
  where
    go : (x : Bool) → (n ≤ to_e t - 1 → to_e t ≡ n + to_e (drop n t)) → suc n ≤ cond x 1 (suc (to_e t)) - 1 → cond x 1 (suc (to_e t)) ≡ suc n + to_e (drop n t)
    go true rec h = absurd (omega arith)
    go false rec h = omega (arith, rec (omega arith))

-- ---- the same at a place of the input

byte_begins : (k : ℕ) (t : List ℕ) → begins (k ∷ []) t ≡ byte_is t k
byte_begins k [] = refl
byte_begins k (b ∷ t) = and-true (eqb b k)

module _ (s : List ℕ) (i : ℕ) where
  pub to_e_past : (n : ℕ) → n ≤ to_e (drop i s) - 1 → to_e (drop i s) ≡ n + to_e (drop (i + n) s)
  to_e_past n h = to_e_later n (drop i s) h ∙ ap (λ (t : List ℕ). n + to_e t) (drop-drop n i s)

  module _ (h : i < length s) where
    to_e_on : to_e (drop i s) ≡ cond (begins (10 ∷ 101 ∷ []) (drop i s)) 1 (suc (to_e (drop (i + 1) s)))
    to_e_on =
        ap to_e (drop-cons s i 0 h)
        ∙ ap (λ (x : Bool). cond (eqb (get_or s i 0) 10 && x) 1 (suc (to_e (drop (suc i) s)))) (sym (byte_begins 101 (drop (suc i) s)))
        ∙ rw (add-one, drop-cons s i 0) refl

    pub to_e_stop : begins (10 ∷ 101 ∷ []) (drop i s) ≡ true → to_e (drop i s) ≡ 1
    to_e_stop e = to_e_on ∙ ap (λ (x : Bool). cond x 1 (suc (to_e (drop (i + 1) s)))) e

    pub to_e_go : begins (10 ∷ 101 ∷ []) (drop i s) ≡ false → to_e (drop i s) ≡ suc (to_e (drop (i + 1) s))
    to_e_go e = to_e_on ∙ ap (λ (x : Bool). cond x 1 (suc (to_e (drop (i + 1) s)))) e

-- ---- a piece goes on up to it

-- bytes that do not begin with e do not begin end=
no_e : (t : List ℕ) → byte_is t 101 ≡ false → begins end_key t ≡ false
no_e [] e = refl
no_e (b ∷ t) e = simp e

-- from within a line that does not begin end=: what is left of it and the piece behind it
rest_of_line : (t : List ℕ) → line_size t + piece_size (drop (line_size t) t) ≡ to_e t + piece_size (drop (to_e t) t)
rest_of_line [] = refl
rest_of_line (b ∷ t) = go (eqb b 10) (byte_is t 101) refl (rest_of_line t)
  where
    -- with the byte b, which is byte 10 or not, and has an e behind it or not
    go : (x y : Bool) → byte_is t 101 ≡ y → line_size t + piece_size (drop (line_size t) t) ≡ to_e t + piece_size (drop (to_e t) t)
        → let n = length (line_bytes (due (cut_at x b (lines_of t)))) in
        let m = cond (x && y) 1 (suc (to_e t)) in
        n + piece_size (drop n (b ∷ t)) ≡ m + piece_size (drop m (b ∷ t))
    go true true v rec = refl
    go true false v rec = omega (arith, first_off t (no_e t v), rec)
    go false y v rec =
        let n = ap length (longer_bytes b (due (lines_of t))) in
        omega (arith, ap (λ (k : ℕ). k + piece_size (drop k (b ∷ t))) n, rec)

-- from the start of such a line
pub piece_on : (t : List ℕ) → begins end_key t ≡ false → piece_size t ≡ to_e t + piece_size (drop (to_e t) t)
piece_on t e = first_off t e ∙ rest_of_line t

-- there is a byte before it
pub to_e_moves : (s : List ℕ) (i : ℕ) → i < length s → 0 < to_e (drop i s)
to_e_moves s i h = omega (arith, ap to_e (drop-cons s i 0 h), to_e_some (get_or s i 0) (drop (suc i) s))
