-- Where lines begin the text of a tree and pass all tests, the leaves that end among them hold: a leaf's rule is tested at its last line.
use mathlib.Core.Path.{◌≡◌, refl, sym, ap, subst, ◌∙◌}
use mathlib.Core.Bool.{Bool, true, false, not, cond}
use mathlib.Core.List.{List, [], ◌∷◌, ◌++◌, map, append_assoc}
use Prim.Native.Nat.{ℕ, suc, pred, ◌+◌, ◌-◌, ◌<◌}
use native.Mathlib.Omega.{arith}
use lib.Dec.{eqb, ltb}
use lib.ListN.{length, drop, length-append, length-map}
use lib.Seq.{drop-append_seam}
use borrow.Author.Tests.{ltb-true, not-false, eqb-true, eqb-false, eq-eqb}
use Rattle.model.specs.Instance.{Instance, ◌at◌}
use Rattle.model.specs.Ranges.{GoodWriter}
use Rattle.model.specs.Above.{Above, root, Fork, side}
use Rattle.model.specs.Leaf.{available, stuck_at}
use Rattle.model.specs.Figures.{no_figures}
use Rattle.model.specs.Ramps.{RampPrices}
use Rattle.model.specs.Tree.{Leaf, short, crowd, stuck, price, ramp, Tree, leaf, fork, ramped, GoodLeaf, LeafHolds, Limits, Holds}
use Rattle.leaves.specs.LeafLeasts.{crowd_at}
use Rattle.leaves.proofs.Crowds.{crowd_is}
use Rattle.text.specs.Lines.{Line, ended, end_tree}
use Rattle.text.specs.Course.{good}
use Rattle.text.specs.Forms.{numbers_of}
use Rattle.text.specs.Rendering.{plain_line}
use Rattle.text.specs.Writer.{writer_key}
use Rattle.text.specs.Tests.{None, one_more}
use Rattle.text.proofs.Accepted.{rendered_numbers}
use Rattle.text.proofs.Tests.{good_none}
use Rattle.text.proofs.Verdicts.{form_passes}
use Rattle.tree.specs.Rendering.{short_key, crowd_key, stuck_key, price_key, reserve_key, rampprice_key, up_key, down_key, step_lines, fork_line, leaf_lines, node_lines, lines_after}
use Rattle.tree.specs.NodeLines.{line_kind_of, named, kind_tests}
use Rattle.tree.specs.Places.{priced, ramp_priced, with_steps, with_ups, HoldsAmong}
use Rattle.tree.specs.Refusals.{WrittenTree, short_line, crowd_line, stuck_line, price_line, ramp_line, node_form, part_form}
use Rattle.tree.specs.Course.{with_split, Pending, pending, Due, writer_due, nodes_due, part_due, tests, after_leaf, after_node, after_part, next_due, judge}
use Rattle.tree.specs.Acceptance.{Bounded, bounded}
use Rattle.tree.proofs.Lines.{one_fits}
use Rattle.tree.proofs.Written.{map_both}
use Rattle.tree.proofs.StepLines.{one_longer}
use Rattle.tree.proofs.NodeLines.{is_T, fork_good, holds_at_last}
use Rattle.tree.proofs.Complete.{Passes, writer_good}
use Rattle.tree.proofs.LinePlaces.{leaf_line}

module _ (P : Instance) where
  -- ---- at its last line

  module _ (A : Above) (d : ℕ) (F : Bounded) (ps : List Pending) where
    short_held : (t : ℕ) → GoodLeaf P (short t) → None (tests P (nodes_due F (pending A d ∷ ps)) (ended (plain_line short_key (suc t ∷ [])))) → LeafHolds P A (short t)
    unfolding tests line_kind_of kind_tests GoodLeaf LeafHolds
    short_held t h n =
        let l = ended (plain_line short_key (suc t ∷ [])) in
        let f = node_form P short_line in
        let i = named f l 0 in
        let v : i ≡ t = ap (λ (vs : List ℕ). pred (vs at 0)) (rendered_numbers f false (suc t ∷ []) (one_fits short_key P.periods t h)) ∙ omega arith in
        let g : not (ltb (available P A i) (P.demand at i + P.spare at i)) ≡ false = ((form_passes f l (kind_tests P A d short_line l)).0 n).1.0 in
        (h, ltb-true _ _ (not-false _ (rw v at g)))

    crowd_held : (t : ℕ) → GoodLeaf P (crowd t) → None (tests P (nodes_due F (pending A d ∷ ps)) (ended (plain_line crowd_key (suc t ∷ [])))) → LeafHolds P A (crowd t)
    unfolding tests line_kind_of kind_tests GoodLeaf LeafHolds
    crowd_held t h n =
        let l = ended (plain_line crowd_key (suc t ∷ [])) in
        let f = node_form P crowd_line in
        let v : named f l 0 ≡ t = ap (λ (vs : List ℕ). pred (vs at 0)) (rendered_numbers f false (suc t ∷ []) (one_fits crowd_key P.periods t h)) ∙ omega arith in
        let g : not (crowd_at P A (named f l 0)) ≡ false = ((form_passes f l (kind_tests P A d crowd_line l)).0 n).1.0 in
        (h, (crowd_is P A t).0 (not-false _ (rw v at g)))

    stuck_held : (U : ℕ) → GoodLeaf P (stuck U) → None (tests P (nodes_due F (pending A d ∷ ps)) (ended (plain_line stuck_key (suc U ∷ [])))) → LeafHolds P A (stuck U)
    unfolding tests line_kind_of kind_tests GoodLeaf LeafHolds
    stuck_held U h n =
        let l = ended (plain_line stuck_key (suc U ∷ [])) in
        let f = node_form P stuck_line in
        let b = stuck_at P.periods P.units A.marks U in
        let v : named f l 0 ≡ U = ap (λ (vs : List ℕ). pred (vs at 0)) (rendered_numbers f false (suc U ∷ []) (one_fits stuck_key (length P.units) U h)) ∙ omega arith in
        let g : not (stuck_at P.periods P.units A.marks (named f l 0)) ≡ false = ((form_passes f l (kind_tests P A d stuck_line l)).0 n).1.0 in
        is_T b (not-false b (rw v at g))

  -- ---- among the first lines

  -- no leaf ends among no lines
  none_held : (A : Above) (t : Tree) (k : ℕ) → k ≡ 0 → HoldsAmong P A k t
  unfolding HoldsAmong
  none_held A (leaf l) k e = λ h. absurd (let m = leaf_line l in omega arith)
  none_held A (fork f x y) k e = (none_held (side f false A) x (k - 1) (omega arith), none_held (side f true A) y (k - 1 - length (node_lines x)) (omega arith))

  -- where all hold, those that end there do
  all_held : (A : Above) (t : Tree) (k : ℕ) → Holds P A t → HoldsAmong P A k t
  unfolding Holds HoldsAmong
  all_held A (leaf l) k h = λ _. h
  all_held A (fork f x y) k h = (all_held (side f false A) x (k - 1) h.0, all_held (side f true A) y (k - 1 - length (node_lines x)) h.1)

  held : (A : Above) (t : Tree) {j k : ℕ} → j ≡ k → HoldsAmong P A j t → HoldsAmong P A k t
  held A t e h = subst (λ (i : ℕ). HoldsAmong P A i t) e h

  -- ---- lines that pass where a tree is due with A above it, and then these nodes: they end inside it, or they go on behind it

  data Passing (A : Above) (t : Tree) (ps : List Pending) (ls : List Line) (s : Due) : Type 0 where
    inside : length ls < length (node_lines t) → HoldsAmong P A (length ls) t → Passing A t ps ls s
    behind : (F : Bounded) (rest : List Line) → ls ≡ map ended (node_lines t) ++ rest → Holds P A t → Passes P (nodes_due F ps) rest s → Passing A t ps ls s

  among : (A : Above) (t : Tree) (ps : List Pending) (ls : List Line) (s : Due) → Passing A t ps ls s → HoldsAmong P A (length ls) t
  among A t ps ls s (inside m h) = h
  among A t ps ls s (behind F rest e h p) = all_held A t (length ls) h

  -- what is due after a line, by what the line is
  moved : (s : Due) {s' s'' u : Due} {x y : Line} (ls : List Line) → next_due P s x ≡ s' → x ≡ y → next_due P s y ≡ s'' → Passes P s' ls u → Passes P s'' ls u
  moved s {s'} {s''} {u} ls d e k h = subst (λ (v : Due). Passes P v ls u) (sym d ∙ ap (next_due P s) e ∙ k) h

  after_good : (s s' : Due) (x : Line) → judge P s x ≡ good s' → next_due P s x ≡ s'
  unfolding judge
  after_good s s' x e = (good_none (next_due P s x) s' (tests P s x) e).1

  -- ---- a leaf

  -- a line that passes, and the lines behind it
  past : (s : Due) (x : Line) (ls : List Line) (u : Due) → Passes P s (x ∷ ls) u → None (tests P s x) × Passes P (next_due P s x) ls u
  past s x ls u (one_more n d h) = (n, subst (λ (v : Due). Passes P v ls u) (sym d) h)

  -- the lines of a ramp leaf's units: they end inside, or they go on behind it, and then the last one said that it holds
  data StepsPassing (A : Above) (ps : List Pending) (m : List RampPrices) (ls : List Line) (u : Due) : Type 0 where
    ends_inside : length ls < length (step_lines m) → StepsPassing A ps m ls u
    ends_behind : (F : Bounded) (rest : List Line) → ls ≡ map ended (step_lines m) ++ rest → (0 < length m → (q s : List ℕ) (l : List RampPrices) → LeafHolds P A (ramp q s l))
        → Passes P (nodes_due F ps) rest u → StepsPassing A ps m ls u

  one_unit : (A : Above) (ps : List Pending) (x : RampPrices) (m : List RampPrices) (y z : Line) (ls : List Line) (u : Due)
      → y ≡ ended (plain_line up_key x.up) → z ≡ ended (plain_line down_key x.down)
      → (m ≡ [] → (q s : List ℕ) (l : List RampPrices) → LeafHolds P A (ramp q s l)) → StepsPassing A ps m ls u → StepsPassing A ps (x ∷ m) (y ∷ z ∷ ls) u
  one_unit A ps x m y z ls u a b h (ends_inside l) = ends_inside (omega (arith, l))
  one_unit A ps x m y z ls u a b h (ends_behind F rest e k p) = ends_behind F rest (λ i. a i ∷ b i ∷ e i) (λ _. go m h k) p
    where
      go : (m : List RampPrices) → (m ≡ [] → (q s : List ℕ) (l : List RampPrices) → LeafHolds P A (ramp q s l))
          → (0 < length m → (q s : List ℕ) (l : List RampPrices) → LeafHolds P A (ramp q s l)) → (q s : List ℕ) (l : List RampPrices) → LeafHolds P A (ramp q s l)
      go [] h k = h refl
      go (x ∷ m) h k = k (omega arith)

  steps_passing : (A : Above) (F : Bounded) (ps : List Pending) (m : List RampPrices) (q s : List ℕ) (k : List RampPrices) → length k + length m ≡ ramped P
      → (ls more after : List Line) (u : Due) → ls ++ more ≡ map ended (step_lines m) ++ after → (b : Bool) → eqb (ramped P) (length k) ≡ b
      → Passes P (cond b (after_leaf P F A ps (ramp q s k)) (part_due F A (with_steps q s k) ps)) ls u → StepsPassing A ps m ls u
  unfolding tests next_due after_part
  steps_passing A F ps [] q s k n ls more after u e true c h = ends_behind _ ls refl (λ l. absurd (omega arith)) h
  steps_passing A F ps [] q s k n ls more after u e false c h = absurd (eqb-false (ramped P) (length k) c (omega arith))
  steps_passing A F ps (x ∷ m) q s k n ls more after u e true c h = absurd (let z = eqb-true (ramped P) (length k) c in omega arith)
  steps_passing A F ps (x ∷ m) q s k n [] more after u e false c h = ends_inside (omega arith)
  steps_passing A F ps (x ∷ m) q s k n (y ∷ []) more after u e false c h = ends_inside (omega arith)
  steps_passing A F ps (x ∷ m) q s k n (y ∷ z ∷ ls) more after u e false c h =
      let g = past (part_due F A (with_steps q s k) ps) y (z ∷ ls) u h in
      let v = numbers_of (part_form P (with_steps q s k)) y in
      let g' = past (part_due F A (with_ups q s k v) ps) z ls u g.1 in
      let w : RampPrices = record { up = v; down = numbers_of (part_form P (with_ups q s k v)) z } in
      let k' = k ++ (w ∷ []) in
      let long = one_longer k w in
      let a : y ≡ ended (plain_line up_key x.up) = cc in
      let b : z ≡ ended (plain_line down_key x.down) = cc in
      let r : ls ++ more ≡ map ended (step_lines m) ++ after = cc in
      one_unit A ps x m y z ls u a b (λ o a b. (holds_at_last P F A 0 ps (with_ups q s k v) z g'.0 (eq-eqb (ramped P) (suc (length k)) (none_left m o n)) a b).1)
      (steps_passing A F ps m q s k' (omega arith) ls more after u r (eqb (ramped P) (length k')) refl g'.1)
    where
      none_left : (m : List RampPrices) → m ≡ [] → length k + length (x ∷ m) ≡ ramped P → ramped P ≡ suc (length k)
      none_left [] o n = omega arith
      none_left (y ∷ m) o n = absurd (let z : ◌≡◌ {A = ℕ} 0 1 = cc in omega arith)

  -- all of them, behind the leaf's first two
  whole_ramp : (A : Above) (ps : List Pending) (q r : List ℕ) (l : List RampPrices) (x y : Line) (ls : List Line) (u : Due)
      → x ≡ ended (plain_line rampprice_key q) → y ≡ ended (plain_line reserve_key r)
      → (l ≡ [] → (q s : List ℕ) (l : List RampPrices) → LeafHolds P A (ramp q s l)) → StepsPassing A ps l ls u → Passing A (leaf (ramp q r l)) ps (x ∷ y ∷ ls) u
  unfolding Holds HoldsAmong node_lines
  whole_ramp A ps q r l x y ls u a b h (ends_inside n) = inside (omega (arith, n)) (λ m. absurd (omega (arith, n, m)))
  whole_ramp A ps q r l x y ls u a b h (ends_behind F rest e k p) = behind F rest (λ i. a i ∷ b i ∷ e i) (go l h k) p
    where
      go : (j : List RampPrices) → (j ≡ [] → (q s : List ℕ) (l : List RampPrices) → LeafHolds P A (ramp q s l))
          → (0 < length j → (q s : List ℕ) (l : List RampPrices) → LeafHolds P A (ramp q s l)) → LeafHolds P A (ramp q r l)
      go [] h k = h refl q r l
      go (x ∷ j) h k = k (omega arith) q r l

  leaf_passing : (A : Above) (d : ℕ) (F : Bounded) (ps : List Pending) (l : Leaf) → GoodLeaf P l → (ls more after : List Line) (s : Due)
      → ls ++ more ≡ map ended (leaf_lines l) ++ after → Passes P (nodes_due F (pending A d ∷ ps)) ls s → Passing A (leaf l) ps ls s
  unfolding Holds HoldsAmong node_lines tests next_due after_node after_part line_kind_of GoodLeaf
  leaf_passing A d F ps l g [] more after s e h = inside (leaf_line l) (none_held A (leaf l) 0 refl)
  leaf_passing A d F ps (short t) g (x ∷ ls) more after s e (one_more n k h) =
      let y : x ≡ ended (plain_line short_key (suc t ∷ [])) = cc in
      behind _ ls (ap (λ (z : Line). z ∷ ls) y) (short_held A d F ps t g (subst (λ (z : Line). None (tests P (nodes_due F (pending A d ∷ ps)) z)) y n))
      (moved (nodes_due F (pending A d ∷ ps)) ls k y refl h)
  leaf_passing A d F ps (crowd t) g (x ∷ ls) more after s e (one_more n k h) =
      let y : x ≡ ended (plain_line crowd_key (suc t ∷ [])) = cc in
      behind _ ls (ap (λ (z : Line). z ∷ ls) y) (crowd_held A d F ps t g (subst (λ (z : Line). None (tests P (nodes_due F (pending A d ∷ ps)) z)) y n))
      (moved (nodes_due F (pending A d ∷ ps)) ls k y refl h)
  leaf_passing A d F ps (stuck U) g (x ∷ ls) more after s e (one_more n k h) =
      let y : x ≡ ended (plain_line stuck_key (suc U ∷ [])) = cc in
      behind _ ls (ap (λ (z : Line). z ∷ ls) y) (stuck_held A d F ps U g (subst (λ (z : Line). None (tests P (nodes_due F (pending A d ∷ ps)) z)) y n))
      (moved (nodes_due F (pending A d ∷ ps)) ls k y refl h)
  leaf_passing A d F ps (price q r) g (x ∷ []) more after s e h = inside (omega arith) (λ m. absurd (omega arith))
  leaf_passing A d F ps (price q r) g (x ∷ y ∷ ls) more after s e (one_more n k h) =
      let z : x ≡ ended (plain_line price_key q) = cc in
      let t : List ℕ = numbers_of (node_form P price_line) (ended (plain_line price_key q)) in
      let p = past (part_due F A (priced t) ps) y ls s (moved (nodes_due F (pending A d ∷ ps)) (y ∷ ls) k z refl h) in
      let w : y ≡ ended (plain_line reserve_key r) = cc in
      behind _ ls (λ i. z i ∷ w i ∷ ls) (holds_at_last P F A d ps (priced t) y p.0 refl q r).0 p.1
  leaf_passing A d F ps (ramp q r l) g (x ∷ []) more after s e h = inside (omega arith) (λ m. absurd (omega arith))
  leaf_passing A d F ps (ramp q r l) g (x ∷ y ∷ ls) more after s e (one_more n k h) =
      let z : x ≡ ended (plain_line rampprice_key q) = cc in
      let t : List ℕ = numbers_of (node_form P ramp_line) (ended (plain_line rampprice_key q)) in
      let p = past (part_due F A (ramp_priced t) ps) y ls s (moved (nodes_due F (pending A d ∷ ps)) (y ∷ ls) k z refl h) in
      let w : y ≡ ended (plain_line reserve_key r) = cc in
      let v : List ℕ = numbers_of (part_form P (ramp_priced t)) y in
      let j : ls ++ more ≡ map ended (step_lines l) ++ after = cc in
      whole_ramp A ps q r l x y ls s z w (λ o a b. (holds_at_last P F A d ps (ramp_priced t) y p.0 (eq-eqb (ramped P) 0 (none_said l o g.2.0)) a b).1)
      (steps_passing A F ps l t v [] (omega (arith, g.2.0)) ls more after s j (eqb (ramped P) 0) refl p.1)
    where
      none_said : (l : List RampPrices) → l ≡ [] → length l ≡ ramped P → ramped P ≡ 0
      none_said [] o n = sym n
      none_said (y ∷ l) o n = absurd (let z : ◌≡◌ {A = ℕ} 0 1 = cc in omega arith)

  -- ---- a fork

  module _ (A : Above) (f : Fork) (x y : Tree) (ps : List Pending) (s : Due) (z : Line) (first : z ≡ ended (fork_line f)) (ls : List Line) where
    -- the lines of its first tree stand behind its own, and then lines that pass where its second is due
    in_second_tree : (rest : List Line) → ls ≡ map ended (node_lines x) ++ rest → Holds P (side f false A) x → Passing (side f true A) y ps rest s
        → Passing A (fork f x y) ps (z ∷ ls) s
    unfolding Holds HoldsAmong node_lines
    in_second_tree rest e h (inside m k) =
        let n : length ls ≡ length (node_lines x) + length rest =
        ap (λ (a : List Line). length a) e ∙ length-append (map ended (node_lines x)) rest ∙ ap (λ (i : ℕ). i + length rest) (length-map (node_lines x) ended) in
        inside (omega (arith, n, m, length-append (node_lines x) (node_lines y))) (all_held (side f false A) x _ h, held (side f true A) y (omega arith) k)
    in_second_tree rest e h (behind F more q k p) =
        let X = map ended (node_lines x) in
        let Y = map ended (node_lines y) in
        behind F more
        (λ i. first i ∷ (e ∙ ap (λ (a : List Line). X ++ a) q ∙ sym (append_assoc X Y more) ∙ ap (λ (a : List Line). a ++ more) (sym (map_both (node_lines x) (node_lines y)))) i)
        (h, k) p

    in_trees : (more after : List Line) (p : Pending) → ls ++ more ≡ map ended (node_lines x) ++ (map ended (node_lines y) ++ after)
        → Passing (side f false A) x (p ∷ ps) ls s
        → ((F : Bounded) (rest : List Line) → rest ++ more ≡ map ended (node_lines y) ++ after → Passes P (nodes_due F (p ∷ ps)) rest s → Passing (side f true A) y ps rest s)
        → Passing A (fork f x y) ps (z ∷ ls) s
    unfolding HoldsAmong node_lines
    in_trees more after p e (inside m k) second =
        inside (omega (arith, m, length-append (node_lines x) (node_lines y))) (held (side f false A) x (omega arith) k, none_held (side f true A) y _ (omega arith))
    in_trees more after p e (behind F rest q h k) second =
        let X = map ended (node_lines x) in
        let Y = map ended (node_lines y) in
        let r : X ++ (rest ++ more) ≡ X ++ (Y ++ after) = sym (append_assoc X rest more) ∙ ap (λ (a : List Line). a ++ more) (sym q) ∙ e in
        in_second_tree rest q h
        (second F rest (sym (drop-append_seam X (rest ++ more)) ∙ ap (drop (length X)) r ∙ drop-append_seam X (Y ++ after)) k)

  -- ---- any tree

  tree_passing : (A : Above) (d : ℕ) (F : Bounded) (ps : List Pending) (t : Tree) → Limits P A d t → (ls more after : List Line) (s : Due)
      → ls ++ more ≡ map ended (node_lines t) ++ after → Passes P (nodes_due F (pending A d ∷ ps)) ls s → Passing A t ps ls s
  unfolding Limits node_lines
  tree_passing A d F ps (leaf l) g ls more after s e h = leaf_passing A d F ps l g ls more after s e h
  tree_passing A d F ps (fork f x y) g [] more after s e h = inside (omega arith) (none_held A (fork f x y) 0 refl)
  tree_passing A d F ps (fork f x y) g (z ∷ ls) more after s e (one_more n k h) =
      let w : z ≡ ended (fork_line f) = cc in
      let a : ls ++ more ≡ map ended (node_lines x ++ node_lines y) ++ after = cc in
      let r = a ∙ ap (λ (b : List Line). b ++ after) (map_both (node_lines x) (node_lines y)) ∙ append_assoc (map ended (node_lines x)) (map ended (node_lines y)) after in
      let B = pending (side f true A) (suc d) in
      in_trees A f x y ps s z w ls more after B r
      (tree_passing (side f false A) (suc d) (with_split F) (B ∷ ps) x g.2 ls more (map ended (node_lines y) ++ after) s r
      (moved (nodes_due F (pending A d ∷ ps)) ls k w (after_good _ _ _ (fork_good P F A d ps f g.0 g.1)) h))
      (λ G rest q p. tree_passing (side f true A) (suc d) G ps y g.3 rest more after s q p)

  -- ---- the whole text

  pub leaves_hold : (v : WrittenTree) (ls more : List Line) (s : Due) → ls ++ more ≡ map ended (lines_after v.writer v.tree) → GoodWriter v.writer
      → Limits P root 0 v.tree → Passes P writer_due ls s → HoldsAmong P root (length ls - 1) v.tree
  leaves_hold v [] more s e g l h = none_held root v.tree (0 - 1) (omega arith)
  leaves_hold v (x ∷ ls) more s e g l (one_more n d h) =
      let y : x ≡ ended (plain_line writer_key (v.writer ∷ [])) = cc in
      let a : ls ++ more ≡ map ended (node_lines v.tree ++ (end_tree ∷ [])) = cc in
      let p = tree_passing root 0 (bounded v.writer no_figures) [] v.tree l ls more (ended end_tree ∷ []) s (a ∙ map_both (node_lines v.tree) (end_tree ∷ []))
      (moved writer_due ls d y (after_good _ _ _ (writer_good P v.writer g)) h) in
      held root v.tree (omega arith) (among root v.tree [] ls s p)
