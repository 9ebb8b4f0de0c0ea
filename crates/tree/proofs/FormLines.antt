-- The lines of a tree, by the tests of their form alone: the lines of a tree within the limits pass them, and lines that pass them to the end are those of such a
-- tree, whether its leaves hold or not. As in Correct.antt, what is left is always one tree for each node that is still to be read, and then the end line.
use mathlib.Core.Path.{◌≡◌, refl, sym, ap, subst, ◌∙◌}
use mathlib.Core.Bool.{true, false}
use mathlib.Core.List.{List, [], ◌∷◌, ◌++◌, map, append_assoc}
use mathlib.Core.Option.{some}
use Prim.Native.Nat.{ℕ, suc, pred, ◌≤◌}
use native.Mathlib.Omega.{arith}
use lib.ListN.{length}
use borrow.Author.Tests.{ltb-false, not-false}
use Rattle.model.specs.Instance.{Instance, ◌at◌}
use Rattle.model.specs.Ranges.{GoodWriter}
use Rattle.model.specs.Above.{Above, root, Fork, status, count, side}
use Rattle.model.specs.Tree.{Leaf, short, crowd, stuck, price, ramp, Tree, leaf, fork, GoodFork, GoodLeaf, Limits}
use Rattle.text.specs.Lines.{Line, ended, is_line, end_tree}
use Rattle.text.specs.Course.{good}
use Rattle.text.specs.Forms.{numbers_of}
use Rattle.text.specs.Rendering.{plain_line}
use Rattle.text.specs.Writer.{writer_key, writer_form}
use Rattle.text.specs.Tests.{None, Passed, none_yet, one_more}
use Rattle.text.proofs.Accepted.{Fits, rendered_line, rendered_good, rendered_numbers}
use Rattle.text.proofs.Courses.{passed_both}
use Rattle.text.proofs.Plain.{plain_passed, one_value}
use Rattle.text.proofs.Tests.{good_none}
use Rattle.text.proofs.Verdicts.{form_passes}
use Rattle.text.proofs.WellFormed.{form_only, none_of_form}
use Rattle.text.proofs.Words.{word_is}
use Rattle.tree.specs.Rendering.{short_key, crowd_key, stuck_key, price_key, reserve_key, rampprice_key, fork_line, leaf_lines, node_lines}
use Rattle.tree.specs.Places.{Part, priced}
use Rattle.tree.specs.NodeLines.{line_kind_of, named, counted, kind_tests, node_tests, leaf_tests}
use Rattle.tree.specs.Refusals.{LineKind, split_line, count_line, short_line, crowd_line, stuck_line, price_line, ramp_line, node_form, part_form}
use Rattle.tree.specs.Course.{with_split, Pending, pending, Due, writer_due, nodes_due, part_due, nothing_due, tests, after_fork, after_leaf, after_node, after_part, next_due, judge, end}
use Rattle.tree.specs.Acceptance.{Bounded}
use Rattle.tree.proofs.Bounds.{add}
use Rattle.tree.proofs.Lines.{multipliers_fit, was_multipliers, one_fits, was_one}
use Rattle.tree.proofs.StepLines.{ramp_passes}
use Rattle.tree.proofs.Written.{map_both}
use Rattle.tree.proofs.NodeLines.{free_mark, narrows_is, was_split, was_count, part_lines, GoodPart, fork_good, price_good, ramp_good, PartWas, ends_leaf, goes_on, by_part}
use Rattle.tree.proofs.Correct.{forest_lines}

-- these lines pass the tests of the form, each at its place
abbrev pub FormPasses : Instance → Due → List Line → Due → Type 0
FormPasses P s ls t = Passed (λ u l. form_only (tests P u l)) (next_due P) s ls t

-- lines that pass all tests pass these
pub all_of_form : (P : Instance) {s t : Due} (ls : List Line) → Passed (tests P) (next_due P) s ls t → FormPasses P s ls t
all_of_form P [] none_yet = none_yet
all_of_form P {s} (x ∷ ls) (one_more n e p) = one_more (none_of_form (tests P s x) n) e (all_of_form P ls p)

-- ---- from lines to trees: one for each node still to be read, within the limits of its place

abbrev pub Limited : Instance → List Pending → List Tree → Type 0
Limited P [] [] = Unit {0}
Limited P [] (t ∷ ts) = ⊥
Limited P (p ∷ ps) [] = ⊥
Limited P (p ∷ ps) (t ∷ ts) = Limits P p.above p.depth t × Limited P ps ts

pub record FormForest (P : Instance) (ps : List Pending) (ls : List Line) : Type 0 where
  pub trees : List Tree
  pub limited : Limited P ps trees
  pub lines : ls ≡ map ended (forest_lines trees)

-- the rest of a leaf that begins with a part, and then such trees
pub record FormForestAfter (P : Instance) (p : Part) (ps : List Pending) (ls : List Line) : Type 0 where
  pub its : Leaf
  pub rest : List (List ℕ)
  pub whole : leaf_lines its ≡ part_lines p ++ rest
  pub after : List Line
  pub lines : ls ≡ map ended rest ++ after
  pub good : GoodPart P p → GoodLeaf P its
  pub forest : FormForest P ps after

pub record FormWhole (P : Instance) (ls : List Line) : Type 0 where
  pub writer : ℕ
  pub after : List Line
  pub lines : ls ≡ ended (plain_line writer_key (writer ∷ [])) ∷ after
  pub range : GoodWriter writer
  pub forest : FormForest P (pending root 0 ∷ []) after

abbrev pub FormLeft : Instance → Due → List Line → Type 0
FormLeft P writer_due ls = FormWhole P ls
FormLeft P (nodes_due F ps) ls = FormForest P ps ls
FormLeft P (part_due F A p ps) ls = FormForestAfter P p ps ls
FormLeft P (nothing_due F) ls = ls ≡ []

-- one line more in front
module _ (P : Instance) (F : Bounded) (p : Pending) (ps : List Pending) (x : Line) (ls : List Line) where
  -- a leaf, of which this is the first line
  leaf_before : (l : Leaf) (b : List ℕ) (rest : List (List ℕ)) (after : List Line) → leaf_lines l ≡ b ∷ rest → x ≡ ended b → ls ≡ map ended rest ++ after
      → GoodLeaf P l → FormForest P ps after → FormForest P (p ∷ ps) (x ∷ ls)
  unfolding Limits node_lines
  leaf_before l b rest after n e k g f = record {
    trees = leaf l ∷ f.trees;
    limited = (g, f.limited);
    lines = rw n (λ i. e i ∷ (k ∙ ap (λ (ys : List Line). map ended rest ++ ys) f.lines ∙ sym (map_both rest (forest_lines f.trees))) i);
  }

  fork_before : (f : Fork) → x ≡ ended (fork_line f) → GoodFork P p.above f → p.depth ≤ 63 → FormLeft P (after_fork F p ps f) ls → FormForest P (p ∷ ps) (x ∷ ls)
  unfolding Limits node_lines
  fork_before f e g d w = go w.trees w.limited w.lines
    where
      go : (ts : List Tree) → Limited P (pending (side f false p.above) (suc p.depth) ∷ pending (side f true p.above) (suc p.depth) ∷ ps) ts
          → ls ≡ map ended (forest_lines ts)
          → FormForest P (p ∷ ps) (x ∷ ls)
      go [] r l = absurd r
      go (a ∷ []) r l = absurd r.1
      go (a ∷ b ∷ ts) r l = record {
        trees = fork f a b ∷ ts;
        limited = ((g, d, r.0, r.1.0), r.1.1);
        lines = λ i. e i ∷ (l ∙ ap (map ended) (sym (append_assoc (node_lines a) (node_lines b) (forest_lines ts)))) i;
      }

  node_before : (k : LineKind) → None (form_only (node_tests P p.above p.depth k x)) → FormLeft P (after_node P F p ps k x) ls → FormForest P (p ∷ ps) (x ∷ ls)
  unfolding GoodLeaf after_node kind_tests
  node_before split_line n w =
      let g = (form_passes (node_form P split_line) x (kind_tests P p.above p.depth split_line x)).0 n in
      let r = was_split P x g.0 in
      fork_before (status (named (node_form P split_line) x 0) (named (node_form P split_line) x 1)) r.line (r.unit, r.period, free_mark _ g.1.0)
      (ltb-false 63 p.depth g.1.1.0) w
  node_before count_line n w =
      let f = node_form P count_line in
      let g = (form_passes f x (kind_tests P p.above p.depth count_line x)).0 n in
      let r = was_count P x g.0 in
      fork_before (count (named f x 0) (counted f x)) r.line
      (r.period, r.few, (narrows_is p.above (named f x 0) (counted f x)).0 (not-false _ g.1.1.0))
      (ltb-false 63 p.depth g.1.0) w
  node_before short_line n w =
      let r = was_one short_key P.periods x ((form_passes (node_form P short_line) x []).0 n).0 in
      let t = named (node_form P short_line) x 0 in
      leaf_before (short t) (plain_line short_key (suc t ∷ [])) [] ls refl r.line refl r.range w
  node_before crowd_line n w =
      let r = was_one crowd_key P.periods x ((form_passes (node_form P crowd_line) x []).0 n).0 in
      let t = named (node_form P crowd_line) x 0 in
      leaf_before (crowd t) (plain_line crowd_key (suc t ∷ [])) [] ls refl r.line refl r.range w
  node_before stuck_line n w =
      let r = was_one stuck_key (length P.units) x ((form_passes (node_form P stuck_line) x []).0 n).0 in
      let U = named (node_form P stuck_line) x 0 in
      leaf_before (stuck U) (plain_line stuck_key (suc U ∷ [])) [] ls refl r.line refl r.range w
  node_before price_line n w =
      let r = plain_passed price_key P.periods 0 1000000000 x [] n in
      leaf_before w.its (plain_line price_key (numbers_of (node_form P price_line) x)) w.rest w.after w.whole r.line w.lines
      (w.good (was_multipliers P price_key x r)) w.forest
  node_before ramp_line n w =
      let r = plain_passed rampprice_key P.periods 0 1000000000 x [] n in
      leaf_before w.its (plain_line rampprice_key (numbers_of (node_form P ramp_line) x)) w.rest w.after w.whole r.line w.lines
      (w.good (was_multipliers P rampprice_key x r)) w.forest

part_before : (P : Instance) (F : Bounded) (A : Above) (p : Part) (ps : List Pending) (x : Line) (ls : List Line) → None (form_only (tests P (part_due F A p ps) x))
    → FormLeft P (after_part P F A p ps x) ls → FormForestAfter P p ps (x ∷ ls)
unfolding tests leaf_tests
part_before P F A p ps x ls n f = go (by_part P F A 0 ps (λ l. Unit {0}) p x ((form_passes (part_form P p) x []).0 n).0 (λ e q s. (tt, λ k. tt))) f
  where
    go : {s : Due} → PartWas P F A 0 ps (λ l. Unit {0}) p x s → FormLeft P s ls → FormForestAfter P p ps (x ∷ ls)
    go (ends_leaf l b n e g h) f = record {
      its = l;
      rest = b ∷ [];
      whole = n;
      after = ls;
      lines = ap (λ (y : Line). y ∷ ls) e;
      good = g;
      forest = f;
    }
    go (goes_on r b n e g) f = record {
      its = f.its;
      rest = b ∷ f.rest;
      whole = f.whole ∙ ap (λ (k : List (List ℕ)). k ++ f.rest) n ∙ append_assoc (part_lines p) (b ∷ []) f.rest;
      after = f.after;
      lines = λ i. e i ∷ f.lines i;
      good = λ m. f.good (g m);
      forest = f.forest;
    }

line_before : (P : Instance) (s : Due) (x : Line) (ls : List Line) → None (form_only (tests P s x)) → FormLeft P (next_due P s x) ls → FormLeft P s (x ∷ ls)
unfolding tests next_due
line_before P writer_due x ls n f =
    let w = plain_passed writer_key 1 1 65535 x [] n in
    let vs = numbers_of writer_form x in
    record {
      writer = vs at 0;
      after = ls;
      lines = ap (λ (y : Line). y ∷ ls) (w.line ∙ ap (λ (ws : List ℕ). ended (plain_line writer_key ws)) (one_value vs w.count));
      range = w.range 0 (omega (arith, w.count));
      forest = f;
    }
line_before P (nodes_due F []) x ls n f = record { trees = []; limited = tt; lines = λ i. word_is end_tree x (not-false (is_line end_tree x) n.0) i ∷ f i }
line_before P (nodes_due F (p ∷ ps)) x ls n f = node_before P F p ps x ls (line_kind_of x) n f
line_before P (part_due F A p ps) x ls n f = part_before P F A p ps x ls n f
line_before P (nothing_due F) x ls n f = absurd (let e = n.0 in let z : ◌≡◌ {A = ℕ} 0 1 = cc in omega arith)

-- all lines
pub passed_left : (P : Instance) (s last : Due) (ls : List Line) (v : Bounded) → FormPasses P s ls last → end last ≡ some v → FormLeft P s ls
passed_left P writer_due last [] v none_yet e = absurd (let z : ◌≡◌ {A = ℕ} 0 1 = cc in omega arith)
passed_left P (nodes_due F ps) last [] v none_yet e = absurd (let z : ◌≡◌ {A = ℕ} 0 1 = cc in omega arith)
passed_left P (part_due F A p ps) last [] v none_yet e = absurd (let z : ◌≡◌ {A = ℕ} 0 1 = cc in omega arith)
passed_left P (nothing_due F) last [] v none_yet e = refl
passed_left P s last (x ∷ ls) v (one_more {s' = s'} h d g) e =
    line_before P s x ls h (subst (λ (t : Due). FormLeft P t ls) (sym d) (passed_left P s' last ls v g e))

-- ---- from a tree to lines

module _ (P : Instance) (some : 1 ≤ P.periods) where
  -- a line that is good passes the tests of the form
  pub also : {s s' s'' : Due} {x : Line} {ls : List Line} → judge P s x ≡ good s' → FormPasses P s' ls s'' → FormPasses P s (x ∷ ls) s''
  unfolding judge
  also {s} {s'} {s''} {x} e p = let g = good_none (next_due P s x) s' (tests P s x) e in one_more (none_of_form (tests P s x) g.0) g.1 p

  pub both : {s s' s'' : Due} (a b : List Line) → FormPasses P s a s' → FormPasses P s' b s'' → FormPasses P s (a ++ b) s''
  both a b = passed_both (λ u l. form_only (tests P u l)) (next_due P) end a b

  leaf_passes : (A : Above) (d : ℕ) (F : Bounded) (ps : List Pending) (l : Leaf) → GoodLeaf P l
      → FormPasses P (nodes_due F (pending A d ∷ ps)) (map ended (leaf_lines l)) (after_leaf P F A ps l)
  unfolding GoodLeaf tests next_due after_node after_part line_kind_of kind_tests leaf_tests
  leaf_passes A d F ps (short t) g =
      let f = node_form P short_line in
      let w = one_fits short_key P.periods t g in
      one_more ((form_passes f (ended (plain_line short_key (suc t ∷ []))) []).1 (rendered_good f false (suc t ∷ []) w, tt))
      (ap (λ (vs : List ℕ). after_leaf P F A ps (short (pred (vs at 0)))) (rendered_numbers f false (suc t ∷ []) w)) none_yet
  leaf_passes A d F ps (crowd t) g =
      let f = node_form P crowd_line in
      let w = one_fits crowd_key P.periods t g in
      one_more ((form_passes f (ended (plain_line crowd_key (suc t ∷ []))) []).1 (rendered_good f false (suc t ∷ []) w, tt))
      (ap (λ (vs : List ℕ). after_leaf P F A ps (crowd (pred (vs at 0)))) (rendered_numbers f false (suc t ∷ []) w)) none_yet
  leaf_passes A d F ps (stuck U) g =
      let f = node_form P stuck_line in
      let w = one_fits stuck_key (length P.units) U g in
      one_more ((form_passes f (ended (plain_line stuck_key (suc U ∷ []))) []).1 (rendered_good f false (suc U ∷ []) w, tt))
      (ap (λ (vs : List ℕ). after_leaf P F A ps (stuck (pred (vs at 0)))) (rendered_numbers f false (suc U ∷ []) w)) none_yet
  leaf_passes A d F ps (ramp q s l) g =
      also (ramp_good P F A d ps some q g.0) (ramp_passes P F A ps (λ u x. form_only (tests P u x)) (Unit {0}) (λ p vs w o. part_of_form p vs w) some q s l g.1 g.2 tt)
    where
      part_of_form : (p : Part) (vs : List ℕ) → Fits (part_form P p) false vs → None (form_only (tests P (part_due F A p ps) (rendered_line (part_form P p) false vs)))
      part_of_form p vs w = (form_passes (part_form P p) (rendered_line (part_form P p) false vs) []).1 (rendered_good (part_form P p) false vs w, tt)
  leaf_passes A d F ps (price q s) g =
      let f = part_form P (priced q) in
      let w = multipliers_fit P reserve_key some s g.1 in
      also (price_good P F A d ps some q g.0)
      (one_more ((form_passes f (ended (plain_line reserve_key s)) []).1 (rendered_good f false s w, tt))
      (ap (λ (vs : List ℕ). after_leaf P F A ps (price q vs)) (rendered_numbers f false s w)) none_yet)

  pub node_passes : (A : Above) (d : ℕ) (F : Bounded) (ps : List Pending) (t : Tree) → Limits P A d t
      → FormPasses P (nodes_due F (pending A d ∷ ps)) (map ended (node_lines t)) (nodes_due (add P A F t) ps)
  unfolding Limits node_lines add
  node_passes A d F ps (leaf l) g = leaf_passes A d F ps l g
  node_passes A d F ps (fork f x y) g =
      also (fork_good P F A d ps f g.0 g.1)
      (rw (map_both (node_lines x) (node_lines y))
      (both (map ended (node_lines x)) (map ended (node_lines y))
      (node_passes (side f false A) (suc d) (with_split F) (pending (side f true A) (suc d) ∷ ps) x g.2)
      (node_passes (side f true A) (suc d) (add P (side f false A) (with_split F) x) ps y g.3)))
