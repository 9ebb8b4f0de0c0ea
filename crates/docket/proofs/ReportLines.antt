-- A report can be read back: its bytes, with whatever follows them, are those of five figures and no others. A figure has no byte 10, so each line ends where
-- the first one stands, and a figure is known by its bytes.
use mathlib.Core.Path.{◌≡◌, refl, sym, ap, ◌∙◌}
use mathlib.Core.Bool.{true, false}
use mathlib.Core.List.{List, [], ◌∷◌, ◌++◌, append_assoc, flatten}
use Prim.Native.Nat.{ℕ}
use native.Mathlib.Omega.{arith}
use lib.ListN.{length, drop}
use lib.Seq.{drop-append_seam}
use Rattle.decimal.specs.Decimal.{digits, is_digit, all_digits}
use Rattle.decimal.proofs.Digits.{digits_all, and_true, digit_range}
use Rattle.decimal.proofs.Numerals.{digits_one}
use Rattle.model.specs.Ranges.{All}
use Rattle.writer.specs.Written.{none_word, never_word, figure, line}
use Rattle.writer.specs.declared.Figure.{Figure}
use Rattle.writer.specs.declared.Figure.TheVariants.{Missing, Never, Number, Minus}
use Rattle.report.specs.Report.{cost_key, cost_writer_key, bound_key, bound_writer_key, gap_key, report_lines}
use Rattle.report.specs.declared.Figures as shown

-- ---- a figure's bytes

clash : {A : Type 0} → false ≡ true → A
clash e = absurd (let z : ◌≡◌ {A = ℕ} 0 1 = cc in omega arith)

-- bytes that are not those of a number
no_digits : {A : Type 0} (n : ℕ) (l : List ℕ) → l ≡ digits n → all_digits l ≡ false → A
no_digits n l e f = clash (sym f ∙ ap all_digits e ∙ digits_all n)

pub figure_one : (f g : Figure) → figure f ≡ figure g → f ≡ g
unfolding figure
figure_one Missing Missing e = refl
figure_one Missing Never e = absurd (let z : ◌≡◌ {A = ℕ} 111 101 = cc in omega arith)
figure_one Missing (Number n) e = no_digits n none_word e refl
figure_one Missing (Minus n) e = absurd (let z : ◌≡◌ {A = ℕ} 110 45 = cc in omega arith)
figure_one Never Missing e = absurd (let z : ◌≡◌ {A = ℕ} 111 101 = cc in omega arith)
figure_one Never Never e = refl
figure_one Never (Number n) e = no_digits n never_word e refl
figure_one Never (Minus n) e = absurd (let z : ◌≡◌ {A = ℕ} 110 45 = cc in omega arith)
figure_one (Number n) Missing e = no_digits n none_word (sym e) refl
figure_one (Number n) Never e = no_digits n never_word (sym e) refl
figure_one (Number n) (Number m) e = ap Number (digits_one n m e)
figure_one (Number n) (Minus m) e = no_digits n (45 ∷ digits m) (sym e) refl
figure_one (Minus n) Missing e = absurd (let z : ◌≡◌ {A = ℕ} 110 45 = cc in omega arith)
figure_one (Minus n) Never e = absurd (let z : ◌≡◌ {A = ℕ} 110 45 = cc in omega arith)
figure_one (Minus n) (Number m) e = no_digits m (45 ∷ digits n) e refl
figure_one (Minus n) (Minus m) e = let d : digits n ≡ digits m = cc in ap Minus (digits_one n m d)

-- ---- no byte 10 in it

abbrev Unended : List ℕ → Type 0
Unended = All (λ x. x ≡ 10 → ⊥)

digits_unended : (l : List ℕ) → all_digits l ≡ true → Unended l
digits_unended [] e = tt
digits_unended (x ∷ l) e =
    let p = and_true (is_digit x) (all_digits l) e in
    ((λ q. omega (arith, (digit_range x p.0).0)), digits_unended l p.1)

figure_unended : (f : Figure) → Unended (figure f)
unfolding figure
figure_unended Missing = ((λ e. omega arith), ((λ e. omega arith), ((λ e. omega arith), ((λ e. omega arith), tt))))
figure_unended Never = ((λ e. omega arith), ((λ e. omega arith), ((λ e. omega arith), ((λ e. omega arith), ((λ e. omega arith), tt)))))
figure_unended (Number n) = digits_unended (digits n) (digits_all n)
figure_unended (Minus n) = ((λ e. omega arith), digits_unended (digits n) (digits_all n))

-- ---- a line is cut where the first byte 10 stands

cut : (a b r s : List ℕ) → Unended a → Unended b → a ++ (10 ∷ r) ≡ b ++ (10 ∷ s) → (a ≡ b) × (r ≡ s)
cut [] [] r s h k e = (refl, (cc))
cut [] (y ∷ b) r s h k e = absurd (k.0 (let z : y ≡ 10 = cc in z))
cut (x ∷ a) [] r s h k e = absurd (h.0 (let z : x ≡ 10 = cc in z))
cut (x ∷ a) (y ∷ b) r s h k e =
    let p : x ≡ y = cc in
    let q = cut a b r s h.1 k.1 (cc) in
    ((λ i. p i ∷ q.0 i), q.1)

module _ (key : List ℕ) where
  apart : (f : Figure) (x r : List ℕ) → (line key f ++ x) ++ r ≡ key ++ (figure f ++ (10 ∷ (x ++ r)))
  apart f x r = simp append_assoc

  first_line : (f g : Figure) (x y r s : List ℕ) → (line key f ++ x) ++ r ≡ (line key g ++ y) ++ s → (f ≡ g) × (x ++ r ≡ y ++ s)
  first_line f g x y r s e =
      let t : figure f ++ (10 ∷ (x ++ r)) ≡ figure g ++ (10 ∷ (y ++ s)) =
      sym (drop-append_seam key (figure f ++ (10 ∷ (x ++ r))))
      ∙ ap (drop (length key)) (sym (apart f x r) ∙ e ∙ apart g y s)
      ∙ drop-append_seam key (figure g ++ (10 ∷ (y ++ s))) in
      let q = cut (figure f) (figure g) (x ++ r) (y ++ s) (figure_unended f) (figure_unended g) t in
      (figure_one f g q.0, q.1)

-- ---- the seven lines

pub lines_one : (f g : shown.Figures) (r s : List ℕ) → report_lines f ++ r ≡ report_lines g ++ s → f ≡ g
unfolding report_lines flatten
lines_one f g r s e =
    let a = first_line cost_key f.cost g.cost _ _ r s (ap (drop 12) e) in
    let b = first_line cost_writer_key f.costwriter g.costwriter _ _ r s a.1 in
    let c = first_line bound_key f.bound g.bound _ _ r s b.1 in
    let d = first_line bound_writer_key f.boundwriter g.boundwriter _ _ r s c.1 in
    let h = first_line gap_key f.gap g.gap _ _ r s d.1 in
    λ i. record { cost = a.0 i; costwriter = b.0 i; bound = c.0 i; boundwriter = d.0 i; gap = h.0 i }
