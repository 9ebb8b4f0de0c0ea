-- The tests of the form come first at every place: so n is the first of them that holds exactly where it is one of theirs and the first of all that holds.
use mathlib.Core.Path.{◌≡◌, refl}
use mathlib.Core.Bool.{true, false}
use mathlib.Core.List.{List, [], ◌∷◌, ◌++◌}
use mathlib.Core.Logic.{◌↔◌}
use mathlib.Core.Option.{Option, none, some}
use Prim.Native.Nat.{ℕ}
use native.Mathlib.Omega.{arith}
use Rattle.model.specs.Instance.{Instance}
use Rattle.model.specs.Above.{Above}
use Rattle.text.specs.Lines.{Line, end_tree}
use Rattle.text.specs.Forms.{form_tests, word_tests, nothing_tests}
use Rattle.text.specs.Writer.{writer_form}
use Rattle.text.specs.Tests.{Test, ◌if◌, FirstTrue, this, after, tests_of_missing, tests_before}
use Rattle.text.specs.WellFormed.{of_form}
use Rattle.text.proofs.Tests.{Every, first_every}
use Rattle.text.proofs.WellFormed.{form_only}
use Rattle.tree.specs.Places.{Part}
use Rattle.tree.specs.NodeLines.{line_kind_of, kind_tests, node_tests, leaf_tests, part_tests}
use Rattle.tree.specs.Refusals.{LineKind, split_line, count_line, short_line, crowd_line, stuck_line, price_line, ramp_line, node_form, part_form}
use Rattle.tree.specs.Course.{Due, writer_due, nodes_due, part_due, nothing_due, tests, next_due, end}
use Rattle.tree.specs.Acceptance.{Bounded}

-- ---- any tests, those of the form before the others

none_first : (ts : List Test) → Every (λ n. of_form n ≡ false) ts → (n : ℕ) → FirstTrue n (form_only ts) → ⊥
none_first [] h n f = first_every (λ _. ⊥) n [] tt f
none_first (m if b ∷ ts) h n f = none_first ts h.1 n (rw h.0 at f)

other_first : (ts : List Test) → Every (λ n. of_form n ≡ false) ts → (n : ℕ) → of_form n ≡ true → FirstTrue n ts → ⊥
other_first ts h n o f = let k = first_every (λ n. of_form n ≡ false) n ts h f in let z : ◌≡◌ {A = ℕ} 0 1 = cc in omega arith

module _ (bs : List Test) (others : Every (λ n. of_form n ≡ false) bs) where
  forth : (ts : List Test) → Every (λ n. of_form n ≡ true) ts → (n : ℕ) → FirstTrue n (form_only (ts ++ bs)) → (of_form n ≡ true) × FirstTrue n (ts ++ bs)
  forth [] h n f = absurd (none_first bs others n f)
  forth (m if b ∷ ts) h n f = go n (rw h.0 at f) (forth ts h.1)
    where
      go : (n : ℕ) → FirstTrue n (m if b ∷ form_only (ts ++ bs)) → ((n : ℕ) → FirstTrue n (form_only (ts ++ bs)) → (of_form n ≡ true) × FirstTrue n (ts ++ bs))
          → (of_form n ≡ true) × FirstTrue n (m if b ∷ (ts ++ bs))
      go n (this e) rec = (h.0, this e)
      go n (after e f) rec = let r = rec n f in (r.0, after e r.1)

  back : (ts : List Test) → Every (λ n. of_form n ≡ true) ts → (n : ℕ) → of_form n ≡ true → FirstTrue n (ts ++ bs) → FirstTrue n (form_only (ts ++ bs))
  back [] h n o f = absurd (other_first bs others n o f)
  back (m if b ∷ ts) h n o f = rw h.0 (go n o f (back ts h.1))
    where
      go : (n : ℕ) → of_form n ≡ true → FirstTrue n (m if b ∷ (ts ++ bs)) → ((n : ℕ) → of_form n ≡ true → FirstTrue n (ts ++ bs) → FirstTrue n (form_only (ts ++ bs)))
          → FirstTrue n (m if b ∷ form_only (ts ++ bs))
      go n o (this e) rec = this e
      go n o (after e f) rec = after e (rec n o f)

  first_of_form : (ts : List Test) → Every (λ n. of_form n ≡ true) ts → (n : ℕ) → FirstTrue n (form_only (ts ++ bs)) ↔ ((of_form n ≡ true) × FirstTrue n (ts ++ bs))
  first_of_form ts h n = (forth ts h n, λ p. back ts h n p.0 p.1)

-- ---- the tests of a tree's lines

module _ (P : Instance) (A : Above) (x : Line) (n : ℕ) where
  kind_first : (d : ℕ) (k : LineKind) → FirstTrue n (form_only (node_tests P A d k x)) ↔ ((of_form n ≡ true) × FirstTrue n (node_tests P A d k x))
  unfolding kind_tests
  kind_first d split_line = first_of_form [] tt (node_tests P A d split_line x) (refl, (refl, (refl, (refl, (refl, tt))))) n
  kind_first d count_line = first_of_form [] tt (node_tests P A d count_line x) (refl, (refl, (refl, (refl, (refl, tt))))) n
  kind_first d short_line = first_of_form (kind_tests P A d short_line x) (refl, tt) (form_tests (node_form P short_line) x []) (refl, (refl, (refl, tt))) n
  kind_first d crowd_line = first_of_form (kind_tests P A d crowd_line x) (refl, tt) (form_tests (node_form P crowd_line) x []) (refl, (refl, (refl, tt))) n
  kind_first d stuck_line = first_of_form (kind_tests P A d stuck_line x) (refl, tt) (form_tests (node_form P stuck_line) x []) (refl, (refl, (refl, tt))) n
  kind_first d price_line = first_of_form [] tt (node_tests P A d price_line x) (refl, (refl, (refl, tt))) n
  kind_first d ramp_line = first_of_form [] tt (node_tests P A d ramp_line x) (refl, (refl, (refl, tt))) n

  part_first : (p : Part) → FirstTrue n (form_only (part_tests P A p x)) ↔ ((of_form n ≡ true) × FirstTrue n (part_tests P A p x))
  unfolding leaf_tests
  part_first p = first_of_form (leaf_tests P A p) (refl, tt) (form_tests (part_form P p) x []) (refl, (refl, (refl, tt))) n

pub form_first : (P : Instance) (s : Due) (left : List Line) (n : ℕ)
    → FirstTrue n (tests_before (λ u l. form_only (tests P u l)) (next_due P) end s left) ↔ ((of_form n ≡ true) × FirstTrue n (tests_before (tests P) (next_due P) end s left))
unfolding tests
form_first P s [] n = go (end s)
  where
    go : (o : Option Bounded) → FirstTrue n (tests_of_missing (λ u l. form_only (tests P u l)) (next_due P) end o) ↔ ((of_form n ≡ true) × FirstTrue n (tests_of_missing (tests P) (next_due P) end o))
    go none = first_of_form [] tt (12 if true ∷ []) (refl, tt) n
    go (some v) = first_of_form [] tt [] tt n
form_first P writer_due (x ∷ left) n = first_of_form [] tt (form_tests writer_form x []) (refl, (refl, (refl, tt))) n
form_first P (nodes_due F []) (x ∷ left) n = first_of_form [] tt (word_tests end_tree x) (refl, tt) n
form_first P (nodes_due F (p ∷ ps)) (x ∷ left) n = kind_first P p.above x n p.depth (line_kind_of x)
form_first P (part_due F A p ps) (x ∷ left) n = part_first P A x n p
form_first P (nothing_due F) (x ∷ left) n = first_of_form [] tt nothing_tests (refl, tt) n
