-- Lines that begin the text of a tree pass, and what is then due is due at the place where the next of its lines stands. Once for all tests, and once for those of
-- the form: the two differ in what they ask of the leaves.
use mathlib.Core.Path.{◌≡◌, refl, sym, ap, subst, ◌∙◌}
use mathlib.Core.Bool.{Bool, true, false}
use mathlib.Core.List.{List, [], ◌∷◌, ◌++◌, map}
use mathlib.Core.Logic.{◌⊎◌, inl, inr}
use Prim.Native.Nat.{ℕ, zero, suc, pred, ◌+◌, ◌-◌, ◌≤◌, ◌<◌}
use native.Mathlib.Omega.{arith}
use lib.Dec.{ltb}
use lib.ListN.{length, take, length-append, length-map}
use lib.Seq.{take-append-le, take-append-add, take-append_seam}
use borrow.Author.Tests.{ltb-true, ltb-false}
use Rattle.model.specs.Instance.{Instance}
use Rattle.model.specs.Ranges.{GoodWriter}
use Rattle.model.specs.Above.{Above, root, Fork, side}
use Rattle.model.specs.Figures.{no_figures}
use Rattle.model.specs.Ramps.{RampPrices}
use Rattle.model.specs.Tree.{Leaf, ramp, Tree, leaf, fork, StepMultipliers, ramped, GoodLeaf, Limits, Holds}
use Rattle.text.specs.Lines.{Line, ended, end_tree}
use Rattle.text.specs.Course.{good}
use Rattle.text.specs.Rendering.{plain_line}
use Rattle.text.specs.Tests.{Test, None, Passed, none_yet, one_more}
use Rattle.text.proofs.Accepted.{Fits, rendered_line}
use Rattle.text.proofs.Courses.{passed_both}
use Rattle.text.proofs.Tests.{good_none}
use Rattle.text.proofs.WellFormed.{form_only, none_of_form}
use Rattle.tree.specs.Rendering.{reserve_key, rampprice_key, up_key, step_lines, leaf_lines, node_lines, lines_after}
use Rattle.tree.specs.Places.{Part, ramp_priced, with_steps, with_ups, PartAt, reserve_line, ramp_reserve_line, up_line, down_line, LinePlace, node_at, part_at, LineAt, first_line, later_line, in_first, in_second, HoldsAmong}
use Rattle.tree.specs.NodeLines.{is_last}
use Rattle.tree.specs.Refusals.{WrittenTree, part_form}
use Rattle.tree.specs.Course.{with_split, Pending, pending, Due, writer_due, nodes_due, part_due, nothing_due, tests, next_due, judge, end}
use Rattle.tree.specs.Acceptance.{Bounded, bounded}
use Rattle.tree.proofs.Bounds.{add}
use Rattle.tree.proofs.Written.{map_both}
use Rattle.tree.proofs.StepLines.{step_lines_both, two_periods, more_due, reserve_pass}
use Rattle.tree.proofs.Lines.{many_fit}
use Rattle.tree.proofs.NodeLines.{GoodSteps, fork_good, price_good, ramp_good, part_good}
use Rattle.tree.proofs.Complete.{node_good, writer_good, end_good}
use Rattle.tree.proofs.FormLines.{node_passes}
use Rattle.tree.proofs.LinePlaces.{line_among, line_placed}

-- ---- the first lines of a ramp leaf

module _ (q s : List ℕ) {l : List RampPrices} (k : List RampPrices) (x : RampPrices) (m : List RampPrices) (e : l ≡ k ++ (x ∷ m)) where
  in_two : map ended (leaf_lines (ramp q s l)) ≡ map ended (leaf_lines (ramp q s k)) ++ map ended (step_lines (x ∷ m))
  in_two =
      ap (λ (j : List RampPrices). map ended (leaf_lines (ramp q s j))) e
      ∙ ap (λ (ls : List (List ℕ)). map ended (plain_line rampprice_key q ∷ plain_line reserve_key s ∷ ls)) (step_lines_both k (x ∷ m))
      ∙ map_both (leaf_lines (ramp q s k)) (step_lines (x ∷ m))

  front_lines : take (length (leaf_lines (ramp q s k))) (map ended (leaf_lines (ramp q s l))) ≡ map ended (leaf_lines (ramp q s k))
  front_lines =
      ap (take (length (leaf_lines (ramp q s k)))) in_two
      ∙ ap (λ (n : ℕ). take n (map ended (leaf_lines (ramp q s k)) ++ map ended (step_lines (x ∷ m)))) (sym (length-map (leaf_lines (ramp q s k)) ended))
      ∙ take-append_seam (map ended (leaf_lines (ramp q s k))) (map ended (step_lines (x ∷ m)))

  front_lines_up : take (suc (length (leaf_lines (ramp q s k)))) (map ended (leaf_lines (ramp q s l)))
      ≡ map ended (leaf_lines (ramp q s k)) ++ (ended (plain_line up_key x.up) ∷ [])
  front_lines_up =
      let n : suc (length (leaf_lines (ramp q s k))) ≡ length (map ended (leaf_lines (ramp q s k))) + 1 = omega (arith, length-map (leaf_lines (ramp q s k)) ended) in
      ap (take (suc (length (leaf_lines (ramp q s k))))) in_two
      ∙ ap (λ (n : ℕ). take n (map ended (leaf_lines (ramp q s k)) ++ map ended (step_lines (x ∷ m)))) n
      ∙ take-append-add (map ended (leaf_lines (ramp q s k))) (map ended (step_lines (x ∷ m))) 1

-- ---- what is due where a line stands

pub data DueAt : LinePlace → Due → Type 0 where
  node_due : {A : Above} {d : ℕ} {F : Bounded} {ps : List Pending} → DueAt (node_at A d) (nodes_due F (pending A d ∷ ps))
  part_there : {A : Above} {F : Bounded} {p : Part} {ps : List Pending} → DueAt (part_at A p) (part_due F A p ps)

-- s is due where line k of the text is
pub data Stands (v : WrittenTree) (k : ℕ) : Due → Type 0 where
  at_writer : k ≡ 0 → Stands v k writer_due
  at_place : {i : ℕ} {w : LinePlace} {s : Due} → k ≡ suc i → LineAt root 0 v.tree i w → DueAt w s → Stands v k s
  at_end : {F : Bounded} → k ≡ suc (length (node_lines v.tree)) → Stands v k (nodes_due F [])
  past_end : {F : Bounded} → k ≡ suc (suc (length (node_lines v.tree))) → Stands v k (nothing_due F)

-- ---- any tests that good lines pass, and that ask of a tree's leaves what `Asked` says, `AskedAmong` of those that end among its first k lines

module _ (P : Instance) (tests' : Due → Line → List Test) (Asked : Above → Tree → Type 0) (AskedAmong : Above → ℕ → Tree → Type 0) where
  pub record Takes : Type 0 where
    -- a good line passes, and so do the lines of a whole tree
    pub good_line : (s s' : Due) (x : Line) → judge P s x ≡ good s' → None (tests' s x)
    pub whole : (A : Above) (d : ℕ) (F : Bounded) (ps : List Pending) (t : Tree) → Limits P A d t → Asked A t
        → Passed tests' (next_due P) (nodes_due F (pending A d ∷ ps)) (map ended (node_lines t)) (nodes_due (add P A F t) ps)
    -- what is asked of the leaves among all lines is what is asked of the tree; of a fork it is asked of its two trees
    pub all : (A : Above) (k : ℕ) (t : Tree) → length (node_lines t) ≤ k → AskedAmong A k t → Asked A t
    pub first : (A : Above) (f : Fork) (k : ℕ) (x y : Tree) → AskedAmong A (suc k) (fork f x y) → AskedAmong (side f false A) k x
    pub second : (A : Above) (f : Fork) (k : ℕ) (x y : Tree) → AskedAmong A (suc (length (node_lines x) + k)) (fork f x y) → AskedAmong (side f true A) k y

  module _ (some : 1 ≤ P.periods) (J : Takes) where
    abbrev Passes : Due → List Line → Due → Type 0
    Passes s ls s' = Passed tests' (next_due P) s ls s'

    -- a unit's place among those that have lines of their own, and their multipliers
    said : {l : List RampPrices} (k : List RampPrices) (x : RampPrices) (m : List RampPrices) → l ≡ k ++ (x ∷ m) → length l ≡ ramped P → length k < ramped P
    said k x m e n = omega (arith, n, ap (λ (j : List RampPrices). length j) e, length-append k (x ∷ m))

    front_good : (k : List RampPrices) (x : RampPrices) (m : List RampPrices) → GoodSteps P (k ++ (x ∷ m)) → GoodSteps P k × StepMultipliers P x.up
    front_good [] x m g = (tt, g.0.0)
    front_good (y ∷ k) x m g = let r = front_good k x m g.1 in ((g.0, r.0), r.1)

    -- one good line in front
    also : {s s' s'' : Due} {x : Line} {ls : List Line} → judge P s x ≡ good s' → Passes s' ls s'' → Passes s (x ∷ ls) s''
    unfolding judge
    also {s} {s'} {s''} {x} e p = one_more (J.good_line s s' x e) (good_none (next_due P s x) s' (tests P s x) e).1 p

    -- a line that is not a leaf's last passes
    part_passes : (A : Above) (F : Bounded) (ps : List Pending) (p : Part) (vs : List ℕ) → Fits (part_form P p) false vs → (is_last P p ≡ false) ⊎ ⊥
        → None (tests' (part_due F A p ps) (rendered_line (part_form P p) false vs))
    part_passes A F ps p vs w (inl e) = J.good_line (part_due F A p ps) _ _ (part_good P F A 0 ps p vs w (rw e refl))
    part_passes A F ps p vs w (inr e) = absurd e

    -- the first lines of a ramp leaf, as far as the lines of the units k
    units_before : (q s : List ℕ) {l : List RampPrices} (k : List RampPrices) (x : RampPrices) (m : List RampPrices) → l ≡ k ++ (x ∷ m) → GoodLeaf P (ramp q s l)
        → (A : Above) (d : ℕ) (F : Bounded) (ps : List Pending)
        → Passes (nodes_due F (pending A d ∷ ps)) (map ended (leaf_lines (ramp q s k))) (part_due F A (with_steps q s k) ps)
    unfolding GoodLeaf
    units_before q s k x m e g A d F ps =
        let n = said k x m e g.2.0 in
        let u = front_good k x m (subst (GoodSteps P) e g.2.1) in
        also (ramp_good P F A d ps some q g.0)
        (subst (λ (z : Due). Passes (part_due F A (ramp_priced q) ps) (map ended (plain_line reserve_key s ∷ step_lines k)) z)
        (more_due P F A ps tests' ⊥ (part_passes A F ps) q s k n)
        (reserve_pass P F A ps tests' ⊥ (part_passes A F ps) some q s k g.1 u.0 (omega arith) (inl n)))

    -- the lines of a leaf before a later one
    to_part : {l : Leaf} {k : ℕ} {p : Part} → PartAt l k p → GoodLeaf P l → (A : Above) (d : ℕ) (F : Bounded) (ps : List Pending)
        → Passes (nodes_due F (pending A d ∷ ps)) (take k (map ended (leaf_lines l))) (part_due F A p ps)
    unfolding GoodLeaf
    to_part (reserve_line {q}) g A d F ps = also (price_good P F A d ps some q g.0) none_yet
    to_part (ramp_reserve_line {q}) g A d F ps = also (ramp_good P F A d ps some q g.0) none_yet
    to_part (up_line {q} {s} k x m e) g A d F ps =
        subst (λ (ls : List Line). Passes (nodes_due F (pending A d ∷ ps)) ls (part_due F A (with_steps q s k) ps)) (sym (front_lines q s k x m e))
        (units_before q s k x m e g A d F ps)
    to_part (down_line {q} {s} k x m e) g A d F ps =
        let n = said k x m e g.2.0 in
        let u = front_good k x m (subst (GoodSteps P) e g.2.1) in
        let w = many_fit (pred P.periods) up_key (two_periods P some (omega arith)) x.up u.1 in
        subst (λ (ls : List Line). Passes (nodes_due F (pending A d ∷ ps)) ls (part_due F A (with_ups q s k x.up) ps)) (sym (front_lines_up q s k x m e))
        (passed_both tests' (next_due P) end (map ended (leaf_lines (ramp q s k))) (ended (plain_line up_key x.up) ∷ []) (units_before q s k x m e g A d F ps)
        (also (part_good P F A 0 ps (with_steps q s k) x.up w refl) none_yet))

    -- the lines of a node before one of its lines
    to_place : {A : Above} {d : ℕ} {x : Tree} {k : ℕ} {w : LinePlace} → LineAt A d x k w → Limits P A d x → AskedAmong A k x → (F : Bounded) (ps : List Pending)
        → (s : Due) × DueAt w s × Passes (nodes_due F (pending A d ∷ ps)) (take k (map ended (node_lines x))) s
    unfolding Limits node_lines
    to_place {A} {d} first_line l g F ps = (nodes_due F (pending A d ∷ ps), node_due, none_yet)
    to_place {A} {d} (later_line {p = p} a) l g F ps = (part_due F A p ps, part_there, to_part a l A d F ps)
    to_place {A} {d} {x = fork f x y} (in_first {k = k} a) l g F ps =
        let r = to_place a l.2 (J.first A f k x y g) (with_split F) (pending (side f true A) (suc d) ∷ ps) in
        let e : take k (map ended (node_lines x ++ node_lines y)) ≡ take k (map ended (node_lines x)) =
        ap (take k) (map_both (node_lines x) (node_lines y))
        ∙ take-append-le k (map ended (node_lines x)) (map ended (node_lines y)) (omega (arith, length-map (node_lines x) ended, line_among a)) in
        (r.0, r.1, also (fork_good P F A d ps f l.0 l.1) (rw e r.2))
    to_place {A} {d} {x = fork f x y} (in_second {k = k} a) l g F ps =
        let n = length (node_lines x) in
        let h = J.all (side f false A) (n + k) x (omega arith) (J.first A f (n + k) x y g) in
        let r = to_place a l.3 (J.second A f k x y g) (add P (side f false A) (with_split F) x) ps in
        let e : take (n + k) (map ended (node_lines x ++ node_lines y)) ≡ map ended (node_lines x) ++ take k (map ended (node_lines y)) =
        ap (take (n + k)) (map_both (node_lines x) (node_lines y))
        ∙ ap (λ (m : ℕ). take (m + k) (map ended (node_lines x) ++ map ended (node_lines y))) (sym (length-map (node_lines x) ended))
        ∙ take-append-add (map ended (node_lines x)) (map ended (node_lines y)) k in (
          r.0,
          r.1,
          also (fork_good P F A d ps f l.0 l.1)
              (rw e (passed_both tests' (next_due P) end (map ended (node_lines x)) (take k (map ended (node_lines y)))
              (J.whole (side f false A) (suc d) (with_split F) (pending (side f true A) (suc d) ∷ ps) x l.2 h) r.2)),
        )

    -- the lines of a text
    module _ (v : WrittenTree) (ok : GoodWriter v.writer) (within : Limits P root 0 v.tree) where
      abbrev Comes : ℕ → Type 0
      Comes k = (s : Due) × Stands v k s × Passes writer_due (take k (map ended (lines_after v.writer v.tree))) s

      abbrev nodes : List Line
      nodes = map ended (node_lines v.tree)

      written : (i : ℕ) → take i (map ended (node_lines v.tree ++ (end_tree ∷ []))) ≡ take i (nodes ++ (ended end_tree ∷ []))
      written i = ap (take i) (map_both (node_lines v.tree) (end_tree ∷ []))

      behind : (i j : ℕ) → i ≡ length (node_lines v.tree) + j
          → take i (map ended (node_lines v.tree ++ (end_tree ∷ []))) ≡ nodes ++ take j (ended end_tree ∷ [])
      behind i j e =
          written i
          ∙ ap (λ (m : ℕ). take m (nodes ++ (ended end_tree ∷ []))) (e ∙ ap (λ (m : ℕ). m + j) (sym (length-map (node_lines v.tree) ended)))
          ∙ take-append-add nodes (ended end_tree ∷ []) j

      before : (i : ℕ) → i < length (node_lines v.tree) → AskedAmong root i v.tree → Comes (suc i)
      before i h g =
          let w = line_placed root 0 v.tree i h in
          let r = to_place w.1 within g (bounded v.writer no_figures) [] in
          let e = written i ∙ take-append-le i nodes (ended end_tree ∷ []) (omega (arith, length-map (node_lines v.tree) ended)) in
          (r.0, at_place refl w.1 r.1, also (writer_good P v.writer ok) (rw e r.2))

      all_nodes : (i : ℕ) → length (node_lines v.tree) ≤ i → AskedAmong root i v.tree
          → Passes (nodes_due (bounded v.writer no_figures) (pending root 0 ∷ [])) nodes (nodes_due (add P root (bounded v.writer no_figures) v.tree) [])
      all_nodes i h g = J.whole root 0 (bounded v.writer no_figures) [] v.tree within (J.all root i v.tree h g)

      after : (i : ℕ) → length (node_lines v.tree) ≤ i → i < 2 + length (node_lines v.tree) → AskedAmong root i v.tree → Comes (suc i)
      after i h m g = go (i - length (node_lines v.tree)) (omega arith)
        where
          go : (j : ℕ) → i ≡ length (node_lines v.tree) + j → Comes (suc i)
          go zero e = (
            nodes_due (add P root (bounded v.writer no_figures) v.tree) [],
            at_end (omega arith),
            also (writer_good P v.writer ok) (rw (behind i 0 e) (passed_both tests' (next_due P) end nodes [] (all_nodes i h g) none_yet)),
          )
          go (suc zero) e = (
            nothing_due (add P root (bounded v.writer no_figures) v.tree),
            past_end (omega arith),
            also (writer_good P v.writer ok)
                (rw (behind i 1 e) (passed_both tests' (next_due P) end nodes (ended end_tree ∷ []) (all_nodes i h g) (also (end_good P (add P root (bounded v.writer no_figures) v.tree)) none_yet))),
          )
          go (suc (suc j)) e = absurd (omega arith)

      comes : (k : ℕ) → k ≤ length (lines_after v.writer v.tree) → AskedAmong root (k - 1) v.tree → Comes k
      comes zero h g = (writer_due, at_writer refl, none_yet)
      comes (suc i) h g =
          let q : suc i - 1 ≡ i = omega arith in
          let m = length-append (node_lines v.tree) (end_tree ∷ []) in
          go (ltb i (length (node_lines v.tree))) refl (omega arith) (subst (λ (j : ℕ). AskedAmong root j v.tree) q g)
        where
          go : (b : Bool) → ltb i (length (node_lines v.tree)) ≡ b → i < 2 + length (node_lines v.tree) → AskedAmong root i v.tree → Comes (suc i)
          go true e h g = before i (ltb-true i (length (node_lines v.tree)) e) g
          go false e h g = after i (ltb-false i (length (node_lines v.tree)) e) h g

      -- lines that begin those of the text
      pub begins_come : (ls more : List Line) → ls ++ more ≡ map ended (lines_after v.writer v.tree) → AskedAmong root (length ls - 1) v.tree
          → (s : Due) × Stands v (length ls) s × Passes writer_due ls s
      begins_come ls more e g =
          let h : length ls + length more ≡ length (lines_after v.writer v.tree) =
          sym (length-append ls more) ∙ ap (λ (x : List Line). length x) e ∙ length-map (lines_after v.writer v.tree) ended in
          let r = comes (length ls) (omega arith) g in
          (r.0, r.1, subst (λ (x : List Line). Passes writer_due x r.0) (ap (take (length ls)) (sym e) ∙ take-append_seam ls more) r.2)

-- ---- the tests of the form ask nothing of the leaves

pub form_takes : (P : Instance) → 1 ≤ P.periods → Takes P (λ s l. form_only (tests P s l)) (λ A t. Unit {0}) (λ A k t. Unit {0})
unfolding judge
form_takes P some = record {
  good_line = λ s s' x e. none_of_form (tests P s x) (good_none (next_due P s x) s' (tests P s x) e).0;
  whole = λ A d F ps t l h. node_passes P some A d F ps t l;
  all = λ A k t m h. tt;
  first = λ A f k x y h. tt;
  second = λ A f k x y h. tt;
}

-- ---- all tests ask that the leaves hold

pub all_hold : (P : Instance) (A : Above) (k : ℕ) (t : Tree) → length (node_lines t) ≤ k → HoldsAmong P A k t → Holds P A t
unfolding HoldsAmong Holds node_lines
all_hold P A k (leaf l) m h = h m
all_hold P A k (fork f x y) m h =
    let e = length-append (node_lines x) (node_lines y) in (
      all_hold P (side f false A) (k - 1) x (omega arith) h.0,
      all_hold P (side f true A) (k - 1 - length (node_lines x)) y (omega arith) h.1,
    )

pub all_takes : (P : Instance) → 1 ≤ P.periods → Takes P (tests P) (Holds P) (HoldsAmong P)
unfolding judge HoldsAmong
all_takes P some = record {
  good_line = λ s s' x e. (good_none (next_due P s x) s' (tests P s x) e).0;
  whole = node_good P some;
  all = all_hold P;
  first = λ A f k x y h. subst (λ (j : ℕ). HoldsAmong P (side f false A) j x) (omega arith) h.0;
  second = λ A f k x y h. subst (λ (j : ℕ). HoldsAmong P (side f true A) j y) (omega arith) h.1;
}
