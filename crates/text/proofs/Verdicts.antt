-- A line is refused by the first of 12, 14, 13 whose test holds of it, and is good exactly when none does. Past a good line
-- stands the next line of the cut.
use Prim.Native.Nat.{ℕ, ◌+◌, ◌<◌}
use native.Mathlib.Omega.{arith}
use mathlib.Core.Path.{◌≡◌, refl, sym, ap, ◌∙◌}
use mathlib.Core.Bool.{Bool, true, false, cond}
use mathlib.Core.Logic.{◌↔◌}
use mathlib.Core.List.{List, [], ◌∷◌}
use lib.ListN.{length, drop}
use lib.Dec.{eqb}
use borrow.Author.Tests.{eqb-true, eq-eqb}
use Rattle.text.specs.Lines.{Line, missing, unended, ended, bytes_of, later, lines_of, line_at, is_line}
use Rattle.text.specs.Course as course
use Rattle.text.specs.Tests.{Test, ◌if◌, FirstTrue, None, first_true, found}
use Rattle.text.specs.Forms.{Form, malformed, wrong_count, outside_range, form_tests, form_refusal, good_line, place_after, fault_number, fault_of, verdict_of, good_row_of, row_of, any_minus, values_of, numbers_of, pad_48}
use Rattle.text.specs.declared.Row.{Row}
use Rattle.std.specs.Prelude.{Result, Ok, Err}
use Rattle.text.specs.declared.Fault.{Fault}
use Rattle.text.proofs.Cuts.{next_lines}
use Rattle.text.proofs.Words.{word_is}
use Rattle.text.proofs.Tests.{number_first, number_none}

-- ---- the number that refuses a line

module _ (f : Form) (l : Line) where
  -- is the first of 12, 14, 13 whose test holds
  pub refused_first : (n : ℕ) → 0 < n → (form_refusal f l ≡ n) ↔ FirstTrue n (form_tests f l [])
  unfolding form_refusal
  refused_first n h = number_first n h (form_tests f l [])

  -- and 0 exactly where none holds
  pub refused_none : (form_refusal f l ≡ 0) ↔ None (form_tests f l [])
  unfolding form_refusal
  refused_none = number_none (form_tests f l []) (omega arith, (omega arith, (omega arith, tt)))

  pub good_is : (good_line f l ≡ true) ↔ (form_refusal f l ≡ 0)
  unfolding good_line
  good_is = (eqb-true (form_refusal f l) 0, eq-eqb (form_refusal f l) 0)

-- ---- a line among others, by its form

module _ (f : Form) (l : Line) (ts : List Test) where
  -- it passes exactly where it is good and passes the other tests
  pub form_passes : (None (form_tests f l ts)) ↔ ((good_line f l ≡ true) × None ts)
  form_passes = (
    λ n. ((good_is f l).1 ((refused_none f l).1 (n.0, (n.1.0, (n.1.1.0, tt)))), n.1.1.1),
    λ g. let r = (refused_none f l).0 ((good_is f l).0 g.0) in (r.0, (r.1.0, (r.1.1.0, g.1))),
  )

  module _ {S : Type 0} (s : S) where
    -- refused by the number that the form gives
    pub form_refused : good_line f l ≡ false → found (form_tests f l ts) s ≡ course.refused (form_refusal f l)
    unfolding good_line form_refusal
    form_refused = go (malformed f l) (wrong_count f l) (outside_range f l)
      where
        go : (m c r : Bool) → eqb (first_true (12 if m ∷ 14 if c ∷ 13 if r ∷ [])) 0 ≡ false
            → found (12 if m ∷ 14 if c ∷ 13 if r ∷ ts) s ≡ course.refused (first_true (12 if m ∷ 14 if c ∷ 13 if r ∷ []))
        go true c r e = refl
        go false true r e = refl
        go false false true e = refl
        go false false false e = absurd (let z : ◌≡◌ {A = ℕ} 0 1 = cc in omega arith)

    -- of a good line the other tests are left
    pub form_found : good_line f l ≡ true → found (form_tests f l ts) s ≡ found ts s
    form_found g = let r = (refused_none f l).0 ((good_is f l).0 g) in rw (r.0, r.1.0, r.1.1.0) refl

-- ---- what the readers of a line answer

module _ (f : Form) (l : Line) where
  -- what is wrong with a line that is not good has the number that refuses it
  pub fault_is : good_line f l ≡ false → fault_number (fault_of (form_refusal f l)) ≡ form_refusal f l
  unfolding good_line form_refusal
  fault_is = go (malformed f l) (wrong_count f l) (outside_range f l)
    where
      go : (m c r : Bool) → eqb (first_true (12 if m ∷ 14 if c ∷ 13 if r ∷ [])) 0 ≡ false
          → fault_number (fault_of (first_true (12 if m ∷ 14 if c ∷ 13 if r ∷ []))) ≡ first_true (12 if m ∷ 14 if c ∷ 13 if r ∷ [])
      go true c r e = refl
      go false true r e = refl
      go false false true e = refl
      go false false false e = absurd (let z : ◌≡◌ {A = ℕ} 0 1 = cc in omega arith)

  module _ (at : ℕ) where
    pub row_read : good_line f l ≡ true → row_of f l at ≡ Ok (good_row_of f l at)
    unfolding row_of
    row_read e = simp e

    -- the verdict is that of the row
    module _ (v : Result ℕ Fault) (is : v ≡ verdict_of f l at) where
      -- refused: the line is not good, and its number is that of what is wrong
      pub ruled_refused : (w : Fault) → v ≡ Err w → (good_line f l ≡ false) × (form_refusal f l ≡ fault_number w)
      unfolding verdict_of
      ruled_refused w e = go (good_line f l) refl (sym is ∙ e)
        where
          go : (t : Bool) → good_line f l ≡ t → cond t (Ok (place_after l at)) (Err (fault_of (form_refusal f l))) ≡ Err w → (good_line f l ≡ false) × (form_refusal f l ≡ fault_number w)
          go true g q = absurd (let z : ◌≡◌ {A = ℕ} 0 1 = cc in omega arith)
          go false g q = let p : fault_of (form_refusal f l) ≡ w = cc in (g, sym (fault_is g) ∙ ap fault_number p)

      pub refused_row : (w : Fault) → v ≡ Err w → Err w ≡ row_of f l at
      unfolding verdict_of row_of
      refused_row w e = go (good_line f l) (sym is ∙ e)
        where
          go : (t : Bool) → cond t (Ok (place_after l at)) (Err (fault_of (form_refusal f l))) ≡ Err w → Err w ≡ cond t (Ok (good_row_of f l at)) (Err (fault_of (form_refusal f l)))
          go true q = absurd (let z : ◌≡◌ {A = ℕ} 0 1 = cc in omega arith)
          go false q = let p : w ≡ fault_of (form_refusal f l) = cc in ap (λ (x : Fault). Err x) p

      -- good: the line is good, and this is where the next one starts
      pub ruled_good : (next : ℕ) → v ≡ Ok next → (good_line f l ≡ true) × (next ≡ place_after l at)
      unfolding verdict_of
      ruled_good next e = go (good_line f l) (sym is ∙ e)
        where
          go : (t : Bool) → cond t (Ok (place_after l at)) (Err (fault_of (form_refusal f l))) ≡ Ok next → (t ≡ true) × (next ≡ place_after l at)
          go true q = let p : place_after l at ≡ next = cc in (refl, sym p)
          go false q = absurd (let z : ◌≡◌ {A = ℕ} 0 1 = cc in omega arith)

      pub good_row : (next : ℕ) → v ≡ Ok next → (neg : Bool) → neg ≡ any_minus (values_of f l) → (vs : List ℕ) → vs ≡ pad_48 (numbers_of f l)
          → Ok (record { next = next; minus = neg; values = vs }) ≡ row_of f l at
      good_row next e neg m vs h = let g = ruled_good next e in (λ i. Ok (record { next = g.1 i; minus = m i; values = h i })) ∙ sym (row_read g.0)

    -- of a row that was read, or not
    module _ (r : Result Row Fault) (read : r ≡ row_of f l at) where
      pub fault_read : (w : Fault) → r ≡ Err w → (good_line f l ≡ false) × (form_refusal f l ≡ fault_number w)
      unfolding row_of
      fault_read w e = go (good_line f l) refl (sym read ∙ e)
        where
          go : (t : Bool) → good_line f l ≡ t → cond t (Ok (good_row_of f l at)) (Err (fault_of (form_refusal f l))) ≡ Err w → (good_line f l ≡ false) × (form_refusal f l ≡ fault_number w)
          go true g q = absurd (let z : ◌≡◌ {A = ℕ} 0 1 = cc in omega arith)
          go false g q = let p : fault_of (form_refusal f l) ≡ w = cc in (g, sym (fault_is g) ∙ ap fault_number p)

      pub good_read : (row : Row) → r ≡ Ok row → (good_line f l ≡ true) × (row ≡ good_row_of f l at)
      unfolding row_of
      good_read row e = go (good_line f l) (sym read ∙ e)
        where
          go : (t : Bool) → cond t (Ok (good_row_of f l at)) (Err (fault_of (form_refusal f l))) ≡ Ok row → (t ≡ true) × (row ≡ good_row_of f l at)
          go true q = let p : good_row_of f l at ≡ row = cc in (refl, sym p)
          go false q = absurd (let z : ◌≡◌ {A = ℕ} 0 1 = cc in omega arith)

-- ---- from line to line

pub good_ended : (f : Form) (l : Line) → good_line f l ≡ true → l ≡ ended (bytes_of l)
unfolding malformed
good_ended f l g = go l ((form_passes f l []).1 (g, tt)).0
  where
    go : (l : Line) → malformed f l ≡ false → l ≡ ended (bytes_of l)
    go missing e = absurd (let z : ◌≡◌ {A = ℕ} 0 1 = cc in omega arith)
    go (unended b) e = absurd (let z : ◌≡◌ {A = ℕ} 0 1 = cc in omega arith)
    go (ended b) e = refl

-- past a good line stands the next line of the cut
pub good_next : (f : Form) (s : List ℕ) (at : ℕ) → good_line f (line_at s at) ≡ true → lines_of (drop (place_after (line_at s at) at) s) ≡ later (lines_of (drop at s))
good_next f s at g = next_lines s (bytes_of (line_at s at)) at (good_ended f (line_at s at) g)

-- past a word line too
pub word_next : (w s : List ℕ) (at : ℕ) → is_line w (line_at s at) ≡ true → lines_of (drop (at + length w + 1) s) ≡ later (lines_of (drop at s))
word_next w s at e = next_lines s w at (word_is w (line_at s at) e)
