-- Which line of a tree's text is refused and by which number: the way to judge it line by line follows the texts of trees, by all tests and by those of the form.
-- With the refused line the lines begin no text of a tree within the limits whose leaves hold.
use mathlib.Core.Path.{◌≡◌, refl, subst}
use mathlib.Core.Bool.{true}
use mathlib.Core.List.{List, [], ◌∷◌, ◌++◌}
use mathlib.Core.Logic.{◌↔◌, ◌⊎◌, inl, inr}
use Prim.Native.Nat.{ℕ, suc, ◌+◌, ◌≤◌, ◌<◌}
use native.Mathlib.Omega.{arith}
use lib.ListN.{length, length-append}
use Rattle.model.specs.Instance.{Instance}
use Rattle.model.specs.Above.{Above, root}
use Rattle.model.specs.Tree.{Holds}
use Rattle.text.specs.Lines.{Line, due, later, lines_of, end_tree}
use Rattle.text.specs.Writer.{writer_form}
use Rattle.text.specs.Tests as lines
use Rattle.text.specs.Tests.{FirstTrue, tests_before}
use Rattle.text.specs.LineRefused.{Unfit, Beginning, Refuses, at_numbers, at_last, behind_last, LineRefused}
use Rattle.text.specs.WellFormed.{of_form}
use Rattle.text.proofs.Tests.{first_every}
use Rattle.text.proofs.Unfit.{numbers_first}
use Rattle.text.proofs.WellFormed.{form_only}
use Rattle.text.proofs.WhichLine as which
use Rattle.text.proofs.WhichLine.{Faithful}
use Rattle.tree.specs.Rendering.{node_lines}
use Rattle.tree.specs.Places.{Part, LinePlace, node_at, part_at, LineAt, HoldsAmong}
use Rattle.tree.specs.Refusals.{WrittenTree, written_lines, NodeBreaks, PartBreaks, Breaks, InLimits, HoldsSoFar, BrokenAt, RefusedAt}
use Rattle.tree.specs.Refusals as refusals
use Rattle.tree.specs.Course.{Due, writer_due, nodes_due, nothing_due, tests, next_due, end}
use Rattle.tree.proofs.FormLines.{all_of_form}
use Rattle.tree.proofs.FormTests.{form_first}
use Rattle.tree.proofs.LinePlaces.{line_among, line_once}
use Rattle.tree.proofs.PlaceTests.{node_first, part_first}
use Rattle.tree.proofs.LinesPass.{DueAt, node_due, part_there, Stands, at_writer, at_place, at_end, past_end, begins_come, form_takes, all_takes}
use Rattle.tree.proofs.LinesBegin.{begun}
use Rattle.tree.proofs.LeavesHold.{leaves_hold}

lines_long : (v : WrittenTree) → length (written_lines v) ≡ 2 + length (node_lines v.tree)
lines_long v = let e = length-append (node_lines v.tree) (end_tree ∷ []) in omega arith

module _ (P : Instance) (some : 1 ≤ P.periods) where
  -- ---- the first test that holds is the number that refuses the line at its place

  abbrev Number : WrittenTree → ℕ → List Line → ℕ → Type 0
  Number v k left n = Refuses written_lines end_tree (HoldsSoFar P) (Breaks P) v k left n

  module _ (v : WrittenTree) (k : ℕ) (left : List Line) where
    -- the writer line
    writer_unfit : k ≡ 0 → (n : ℕ) → Number v k left n → Unfit writer_form (due left) n
    writer_unfit z n (at_numbers (refusals.at_writer e u)) = u
    writer_unfit z n (at_numbers (refusals.at_node e a b)) = absurd (omega arith)
    writer_unfit z n (at_numbers (refusals.at_part e a b)) = absurd (omega arith)
    writer_unfit z n (at_last e f) = absurd (let h = lines_long v in omega arith)
    writer_unfit z n (behind_last e f) = absurd (let h = lines_long v in omega arith)

    -- a node's first line
    pub node_breaks : (i : ℕ) (A : Above) (d : ℕ) → k ≡ suc i → LineAt root 0 v.tree i (node_at A d) → (n : ℕ) → Number v k left n → NodeBreaks P A d (due left) n
    node_breaks i A d z c n (at_numbers (refusals.at_writer e u)) = absurd (omega arith)
    node_breaks i A d z c n (at_numbers (refusals.at_node {d = d'} {A = A'} e a b)) =
        let q = line_once a c (omega arith) in
        let x : A' ≡ A = cc in
        let y : d' ≡ d = cc in
        subst (λ (B : Above). NodeBreaks P B d (due left) n) x (subst (λ (c : ℕ). NodeBreaks P A' c (due left) n) y b)
    node_breaks i A d z c n (at_numbers (refusals.at_part e a b)) = let q = line_once a c (omega arith) in absurd (let y : ◌≡◌ {A = ℕ} 0 1 = cc in omega arith)
    node_breaks i A d z c n (at_last e f) = absurd (let h = lines_long v in let m = line_among c in omega arith)
    node_breaks i A d z c n (behind_last e f) = absurd (let h = lines_long v in let m = line_among c in omega arith)

    -- a later line of a leaf
    pub part_breaks : (i : ℕ) (A : Above) (p : Part) → k ≡ suc i → LineAt root 0 v.tree i (part_at A p) → (n : ℕ) → Number v k left n → PartBreaks P A (due left) p n
    part_breaks i A p z c n (at_numbers (refusals.at_writer e u)) = absurd (omega arith)
    part_breaks i A p z c n (at_numbers (refusals.at_node e a b)) = let w = line_once a c (omega arith) in absurd (let y : ◌≡◌ {A = ℕ} 0 1 = cc in omega arith)
    part_breaks i A p z c n (at_numbers (refusals.at_part {A = A'} {p = p'} e a b)) =
        let w = line_once a c (omega arith) in
        let x : A' ≡ A = cc in
        let y : p' ≡ p = cc in
        subst (λ (B : Above). PartBreaks P B (due left) p n) x (subst (λ (q : Part). PartBreaks P A' (due left) q n) y b)
    part_breaks i A p z c n (at_last e f) = absurd (let h = lines_long v in let m = line_among c in omega arith)
    part_breaks i A p z c n (behind_last e f) = absurd (let h = lines_long v in let m = line_among c in omega arith)

    -- from the end line on no line of numbers is due
    no_numbers : length (node_lines v.tree) < k → (n : ℕ) (l : Line) → Breaks P v k l n → ⊥
    no_numbers h n l (refusals.at_writer e u) = omega (arith, h, e)
    no_numbers h n l (refusals.at_node e a b) = let m = line_among a in omega (arith, h, e, m)
    no_numbers h n l (refusals.at_part e a b) = let m = line_among a in omega (arith, h, e, m)

    at_place_refuses : (i : ℕ) (w : LinePlace) (s : Due) → k ≡ suc i → LineAt root 0 v.tree i w → DueAt w s → (n : ℕ)
        → FirstTrue n (tests_before (tests P) (next_due P) end s left) ↔ Number v k left n
    at_place_refuses i w s z c (node_due {A} {d} {F} {ps}) n =
        let law = node_first P A d F ps left n in
        (λ h. at_numbers (refusals.at_node z c (law.0 h)), λ r. law.1 (node_breaks i A d z c n r))
    at_place_refuses i w s z c (part_there {A} {F} {p} {ps}) n =
        let law = part_first P some A F ps p left n in
        (λ h. at_numbers (refusals.at_part z c (law.0 h)), λ r. law.1 (part_breaks i A p z c n r))

    refuses : (s : Due) → Stands v k s → (n : ℕ) → FirstTrue n (tests_before (tests P) (next_due P) end s left) ↔ Number v k left n
    unfolding tests
    refuses s (at_writer z) n =
        let law = numbers_first (tests P) (next_due P) end writer_due writer_form (λ l. []) refl (λ l. refl) left n in
        (λ h. at_numbers (refusals.at_writer z (go (law.0 h))), λ r. law.1 (inl (writer_unfit z n r)))
      where
        go : {X : Type 0} → Unfit writer_form (due left) n ⊎ (X × FirstTrue n []) → Unfit writer_form (due left) n
        go (inl u) = u
        go (inr (t, f)) = absurd (first_every (λ _. ⊥) n [] tt f)
    refuses s (at_place {i} {w} z c t) n = at_place_refuses i w s z c t n
    refuses s (at_end {F} z) n =
        which.last_refuses (tests P) (next_due P) end written_lines end_tree (HoldsSoFar P) (Breaks P) v k (nodes_due F []) left n refl (λ l. refl)
        (omega (arith, lines_long v, z)) (no_numbers (omega (arith, z)) n)
    refuses s (past_end {F} z) n =
        which.end_refuses (tests P) (next_due P) end written_lines end_tree (HoldsSoFar P) (Breaks P) v k (nothing_due F) left n F refl (λ l. refl)
        (omega (arith, lines_long v, z)) (no_numbers (omega (arith, z)) n)

  -- ---- all tests

  pub all_follow : Faithful (tests P) (next_due P) end written_lines end_tree (HoldsSoFar P) (Breaks P) writer_due Stands
  all_follow = record {
    passes = λ v ls b. begins_come P (tests P) (Holds P) (HoldsAmong P) some (all_takes P some) v b.within.0.0 b.within.0.1 ls b.more b.whole b.within.1;
    begins = λ s ls p.
        let b = begun P some s ls (all_of_form P ls p) in
        (b.text, record { more = b.more; whole = b.whole; within = (b.within, leaves_hold P b.text ls b.more s b.whole b.within.0 b.within.1 p) });
    refuses = λ v k s t left n. refuses v k left s t n;
  }

  module _ (n m : ℕ) where
    pub line_refused_is : (ls : List Line)
        → lines.StopsAt (tests P) (next_due P) end n m 2 writer_due ls ↔ LineRefused written_lines end_tree (HoldsSoFar P) (Breaks P) n m ls
    line_refused_is ls = which.line_refused_is (tests P) (next_due P) end written_lines end_tree (HoldsSoFar P) (Breaks P) all_follow n m ls

    -- with the refused line the lines begin no text of a tree within the limits whose leaves, as far as they end there, hold
    pub with_it_none : (text : List ℕ) (r : RefusedAt P text n m) (x : Line) (rest : List Line) → r.left ≡ x ∷ rest
        → (v : WrittenTree) → Beginning written_lines (HoldsSoFar P) (r.before ++ (x ∷ [])) v → ⊥
    with_it_none text = which.with_it_none (tests P) (next_due P) end written_lines end_tree (HoldsSoFar P) (Breaks P) all_follow n m (later (lines_of text))

  -- ---- the tests of the form

  abbrev FormBreaks : WrittenTree → ℕ → Line → ℕ → Type 0
  FormBreaks v k l n = (of_form n ≡ true) × Breaks P v k l n

  module _ (W : WrittenTree → ℕ → Type 0) (v : WrittenTree) (k : ℕ) (left : List Line) where
    of_form_only : (n : ℕ) → of_form n ≡ true → Refuses written_lines end_tree W (Breaks P) v k left n → Refuses written_lines end_tree (InLimits P) FormBreaks v k left n
    of_form_only n o (at_numbers b) = at_numbers (o, b)
    of_form_only n o (at_last e f) = at_last e f
    of_form_only n o (behind_last e f) = behind_last e f

    of_all : (n : ℕ) → Refuses written_lines end_tree (InLimits P) FormBreaks v k left n → (of_form n ≡ true) × Refuses written_lines end_tree W (Breaks P) v k left n
    of_all n (at_numbers (o, b)) = (o, at_numbers b)
    of_all n (at_last e f) = (refl, at_last e f)
    of_all n (behind_last e f) = (refl, behind_last e f)

  form_follow : Faithful (λ s l. form_only (tests P s l)) (next_due P) end written_lines end_tree (InLimits P) FormBreaks writer_due Stands
  form_follow = record {
    passes = λ v ls b. begins_come P (λ s l. form_only (tests P s l)) (λ A t. Unit {0}) (λ A k t. Unit {0}) some (form_takes P some) v b.within.0 b.within.1 ls b.more b.whole tt;
    begins = λ s ls p. let b = begun P some s ls p in (b.text, record { more = b.more; whole = b.whole; within = b.within });
    refuses = λ v k s t left n.
        let law = form_first P s left n in
        let all = refuses v k left s t n in (
          (λ h. let f = law.0 h in of_form_only (HoldsSoFar P) v k left n f.0 (all.0 f.1)),
          (λ r. let f = of_all (HoldsSoFar P) v k left n r in law.1 (f.0, all.1 f.1)),
        );
  }

  -- a number of the form breaks a line at its place exactly where its test is the first of these that holds
  pub line_broken_is : (n m : ℕ) (ls : List Line)
      → lines.StopsAt (λ s l. form_only (tests P s l)) (next_due P) end n m 2 writer_due ls ↔ ((of_form n ≡ true) × BrokenAt P n m ls)
  line_broken_is n m ls = (λ r. narrow (law.0 r), λ b. law.1 (widen b.0 b.1))
    where
      law : lines.StopsAt (λ s l. form_only (tests P s l)) (next_due P) end n m 2 writer_due ls ↔ LineRefused written_lines end_tree (InLimits P) FormBreaks n m ls
      law = which.line_refused_is (λ s l. form_only (tests P s l)) (next_due P) end written_lines end_tree (InLimits P) FormBreaks form_follow n m ls

      narrow : LineRefused written_lines end_tree (InLimits P) FormBreaks n m ls → (of_form n ≡ true) × BrokenAt P n m ls
      narrow r =
          let f = of_all (InLimits P) r.value (length r.before) r.left n r.refuses in
          let b = r.begins in (
            f.0,
            record {
              value = r.value;
              before = r.before;
              left = r.left;
              parts = r.parts;
              begins = record { more = b.more; whole = b.whole; within = b.within };
              place = r.place;
              refuses = f.1;
            },
          )

      widen : of_form n ≡ true → BrokenAt P n m ls → LineRefused written_lines end_tree (InLimits P) FormBreaks n m ls
      widen o r =
          let b = r.begins in
          record {
            value = r.value;
            before = r.before;
            left = r.left;
            parts = r.parts;
            begins = record { more = b.more; whole = b.whole; within = b.within };
            place = r.place;
            refuses = of_form_only (InLimits P) r.value (length r.before) r.left n o r.refuses;
          }
