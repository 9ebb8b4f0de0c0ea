-- A line that is a word: the word stands at the place, and byte 10 after it.
use Prim.Native.Nat.{ℕ, ◌+◌}
use native.Mathlib.Omega.{arith}
use mathlib.Core.Path.{◌≡◌, refl, sym, ap, ◌∙◌}
use mathlib.Core.Bool.{Bool, true, false, not, ◌&&◌}
use mathlib.Core.List.{List, [], ◌∷◌}
use lib.ListN.{length, drop}
use lib.Seq.{drop-drop}
use lib.Dec.{eqb}
use borrow.Author.Tests.{eqb-true, not-true, eq-eqb, ne_eqb}
use Rattle.text.specs.Forms.{byte_is}
use Rattle.text.specs.Lines.{Line, missing, unended, ended, due, longer, cut_at, lines_of, line_at, one_line, begins, same, is_line}
use Rattle.text.proofs.Cuts.{and_both}

-- ---- what a word line is

pub same_is : (w b : List ℕ) → same w b ≡ true → b ≡ w
same_is [] [] e = refl
same_is [] (x ∷ b) e = absurd (let z : ◌≡◌ {A = ℕ} 0 1 = cc in omega arith)
same_is (k ∷ w) [] e = absurd (let z : ◌≡◌ {A = ℕ} 0 1 = cc in omega arith)
same_is (k ∷ w) (x ∷ b) e =
    let p = and_both (eqb x k) (same w b) e in
    λ i. eqb-true x k p.0 i ∷ same_is w b p.1 i

pub same_self : (w : List ℕ) → same w w ≡ true
same_self [] = refl
same_self (k ∷ w) = simp (eq-eqb k k refl, same_self w)

-- the line is the word exactly where its bytes are those of the word and byte 10 ends it
pub word_is : (w : List ℕ) (l : Line) → is_line w l ≡ true → l ≡ ended w
word_is w missing e = absurd (let z : ◌≡◌ {A = ℕ} 0 1 = cc in omega arith)
word_is w (unended b) e = absurd (let z : ◌≡◌ {A = ℕ} 0 1 = cc in omega arith)
word_is w (ended b) e = ap ended (same_is w b e)

-- ---- the word at the beginning of a text

longer_empty : (c : ℕ) (l : Line) → is_line [] (longer c l) ≡ false
longer_empty c missing = refl
longer_empty c (unended b) = refl
longer_empty c (ended b) = refl

longer_word : (k c : ℕ) (w : List ℕ) (l : Line) → is_line (k ∷ w) (longer c l) ≡ (eqb c k && is_line w l)
longer_word k c w missing = go (eqb c k)
  where
    go : (t : Bool) → false ≡ (t && false)
    go true = refl
    go false = refl
longer_word k c w (unended b) = go (eqb c k)
  where
    go : (t : Bool) → false ≡ (t && false)
    go true = refl
    go false = refl
longer_word k c w (ended b) = refl

and_again : (a b c d : Bool) → (b && c) ≡ d → ((a && b) && c) ≡ (a && d)
and_again true b c d e = e
and_again false b c d e = refl

word_begins : (w t : List ℕ) → one_line w ≡ true → (begins w t && byte_is (drop (length w) t) 10) ≡ is_line w (due (lines_of t))
word_begins [] [] e = refl
word_begins [] (c ∷ t) e = go (eqb c 10)
  where
    go : (p : Bool) → p ≡ is_line [] (due (cut_at p c (lines_of t)))
    go true = refl
    go false = sym (longer_empty c (due (lines_of t)))
word_begins (k ∷ w) [] e = refl
word_begins (k ∷ w) (c ∷ t) e =
    let p = and_both (not (eqb k 10)) (one_line w) e in
    go (eqb c 10) refl (not-true (eqb k 10) p.0) (word_begins w t p.1)
  where
    go : (p : Bool) → eqb c 10 ≡ p → eqb k 10 ≡ false → (begins w t && byte_is (drop (length w) t) 10) ≡ is_line w (due (lines_of t))
        → ((eqb c k && begins w t) && byte_is (drop (length w) t) 10) ≡ is_line (k ∷ w) (due (cut_at p c (lines_of t)))
    go true u v rec =
        let n : eqb c k ≡ false = ne_eqb c k (λ q. let z : ◌≡◌ {A = Bool} true false = sym u ∙ ap (λ (x : ℕ). eqb x 10) q ∙ v in let y : ◌≡◌ {A = ℕ} 0 1 = cc in omega arith) in
        simp n
    go false u v rec = and_again (eqb c k) (begins w t) (byte_is (drop (length w) t) 10) (is_line w (due (lines_of t))) rec ∙ sym (longer_word k c w (due (lines_of t)))

-- what `is_line` answers at each return
module _ (s w : List ℕ) (at : ℕ) (one : one_line w ≡ true) where
  pub word_on : begins w (drop at s) ≡ true → byte_is (drop (at + length w) s) 10 ≡ is_line w (line_at s at)
  word_on e =
      ap (λ (t : List ℕ). byte_is t 10) (sym (drop-drop (length w) at s))
      ∙ ap (λ (t : Bool). t && byte_is (drop (length w) (drop at s)) 10) (sym e)
      ∙ word_begins w (drop at s) one

  pub word_off : begins w (drop at s) ≡ false → false ≡ is_line w (line_at s at)
  word_off e = ap (λ (t : Bool). t && byte_is (drop (length w) (drop at s)) 10) (sym e) ∙ word_begins w (drop at s) one
