-- An accepted text is that of a tree: read backwards from its last line, the lines that are left are always those of one tree for
-- each node that is still to be read, and then the end line.
use mathlib.Core.Path.{◌≡◌, refl, sym, ap, subst, ◌∙◌}
use mathlib.Core.Bool.{true, false}
use mathlib.Core.List.{List, [], ◌∷◌, ◌++◌, map, append_assoc}
use mathlib.Core.Option.{some}
use Prim.Native.Nat.{ℕ, suc, ◌≤◌}
use native.Mathlib.Omega.{arith}
use borrow.Author.Tests.{not-false}
use Rattle.model.specs.Instance.{Instance, ◌at◌}
use Rattle.model.specs.Ranges.{GoodWriter}
use Rattle.model.specs.Above.{Above, root, Fork, side}
use Rattle.model.specs.Figures.{no_figures}
use Rattle.model.specs.Tree.{Leaf, Tree, leaf, fork, GoodFork, GoodLeaf, LeafHolds, leaf_bound, Limits, Holds}
use Rattle.text.specs.Lines.{Line, ended, is_line, end_tree}
use Rattle.text.specs.Course.{good}
use Rattle.text.specs.Rendering.{plain_line}
use Rattle.text.specs.Writer.{writer_key, writer_form}
use Rattle.text.specs.Tests.{Passed, none_yet, one_more}
use Rattle.text.specs.Forms.{numbers_of, form_tests, word_tests}
use Rattle.text.proofs.Words.{word_is}
use Rattle.text.proofs.Plain.{plain_passed, one_value}
use Rattle.text.proofs.Courses.{passed_line}
use Rattle.text.proofs.Tests.{good_none}
use Rattle.tree.specs.Rendering.{fork_line, leaf_lines, node_lines}
use Rattle.tree.specs.Places.{Part}
use Rattle.tree.specs.Course.{with_split, with_leaf, Pending, pending, Due, writer_due, nodes_due, part_due, nothing_due, after_fork, tests, next_due, judge, end}
use Rattle.tree.specs.Acceptance.{Bounded, bounded}
use Rattle.tree.proofs.Bounds.{add}
use Rattle.tree.proofs.NodeLines.{part_lines, GoodPart, NodeWas, fork_was, leaf_was, part_was, node_was, PartWas, ends_leaf, goes_on, part_was_line}
use Rattle.tree.proofs.Written.{map_both}

-- ---- trees for the nodes still to be read

-- each within the limits of its place, its leaves holding there
abbrev pub Grown : Instance → List Pending → List Tree → Type 0
Grown P [] [] = Unit {0}
Grown P [] (t ∷ ts) = ⊥
Grown P (p ∷ ps) [] = ⊥
Grown P (p ∷ ps) (t ∷ ts) = (Limits P p.above p.depth t × Holds P p.above t) × Grown P ps ts

-- their lines, and the end line
abbrev pub forest_lines : List Tree → List (List ℕ)
forest_lines [] = end_tree ∷ []
forest_lines (t ∷ ts) = node_lines t ++ forest_lines ts

-- the figures F with theirs
abbrev pub with_forest : Instance → Bounded → List Pending → List Tree → Bounded
with_forest P F [] ts = F
with_forest P F (p ∷ ps) [] = F
with_forest P F (p ∷ ps) (t ∷ ts) = with_forest P (add P p.above F t) ps ts

-- the lines ls are those of such trees, and v is what they give
pub record Forest (P : Instance) (F : Bounded) (ps : List Pending) (ls : List Line) (v : Bounded) : Type 0 where
  pub trees : List Tree
  pub grown : Grown P ps trees
  pub lines : ls ≡ map ended (forest_lines trees)
  pub gives : v ≡ with_forest P F ps trees

-- the rest of a leaf that begins with a part and holds with A above it, and then such trees
pub record ForestAfter (P : Instance) (F : Bounded) (A : Above) (p : Part) (ps : List Pending) (ls : List Line) (v : Bounded) : Type 0 where
  pub its : Leaf
  pub rest : List (List ℕ)
  pub whole : leaf_lines its ≡ part_lines p ++ rest
  pub after : List Line
  pub lines : ls ≡ map ended rest ++ after
  pub good : GoodPart P p → GoodLeaf P its
  pub holds : LeafHolds P A its
  pub forest : Forest P (with_leaf F (leaf_bound P A its)) ps after v

-- a writer line, and then one tree
pub record Whole (P : Instance) (ls : List Line) (v : Bounded) : Type 0 where
  pub writer : ℕ
  pub after : List Line
  pub lines : ls ≡ ended (plain_line writer_key (writer ∷ [])) ∷ after
  pub range : GoodWriter writer
  pub forest : Forest P (bounded writer no_figures) (pending root 0 ∷ []) after v

-- what the lines that are left are, by what is due
abbrev pub Left : Instance → Due → List Line → Bounded → Type 0
Left P writer_due ls v = Whole P ls v
Left P (nodes_due F ps) ls v = Forest P F ps ls v
Left P (part_due F A p ps) ls v = ForestAfter P F A p ps ls v
Left P (nothing_due F) ls v = (ls ≡ []) × (v ≡ F)

-- ---- one line more in front

module _ (P : Instance) (F : Bounded) (p : Pending) (ps : List Pending) (x : Line) (ls : List Line) (v : Bounded) where
  -- a leaf, of which this is the first line
  leaf_before : (l : Leaf) (b : List ℕ) (rest : List (List ℕ)) (after : List Line) → leaf_lines l ≡ b ∷ rest → x ≡ ended b → ls ≡ map ended rest ++ after
      → GoodLeaf P l → LeafHolds P p.above l → Forest P (with_leaf F (leaf_bound P p.above l)) ps after v → Forest P F (p ∷ ps) (x ∷ ls) v
  unfolding Limits Holds node_lines add
  leaf_before l b rest after n e k g h f = record {
    trees = leaf l ∷ f.trees;
    grown = ((g, h), f.grown);
    lines = rw n (λ i. e i ∷ (k ∙ ap (λ (ys : List Line). map ended rest ++ ys) f.lines ∙ sym (map_both rest (forest_lines f.trees))) i);
    gives = f.gives;
  }

  fork_before : (f : Fork) → x ≡ ended (fork_line f) → GoodFork P p.above f → p.depth ≤ 63 → Left P (after_fork F p ps f) ls v → Forest P F (p ∷ ps) (x ∷ ls) v
  unfolding Limits Holds node_lines add
  fork_before f e g d w = go w.trees w.grown w.lines w.gives
    where
      A : Pending
      A = pending (side f false p.above) (suc p.depth)

      B : Pending
      B = pending (side f true p.above) (suc p.depth)

      go : (ts : List Tree) → Grown P (A ∷ B ∷ ps) ts → ls ≡ map ended (forest_lines ts) → v ≡ with_forest P (with_split F) (A ∷ B ∷ ps) ts
          → Forest P F (p ∷ ps) (x ∷ ls) v
      go [] r l z = absurd r
      go (a ∷ []) r l z = absurd r.1
      go (a ∷ b ∷ ts) r l z = record {
        trees = fork f a b ∷ ts;
        grown = (((g, d, r.0.0, r.1.0.0), (r.0.1, r.1.0.1)), r.1.1);
        lines = λ i. e i ∷ (l ∙ ap (map ended) (sym (append_assoc (node_lines a) (node_lines b) (forest_lines ts)))) i;
        gives = z;
      }

  node_before : (s : Due) → NodeWas P F p.above p.depth ps x s → Left P s ls v → Forest P F (p ∷ ps) (x ∷ ls) v
  node_before s (fork_was f e g d) w = fork_before f e g d w
  node_before s (leaf_was l b n e g h) w = leaf_before l b [] ls n e refl g h w
  node_before s (part_was q b n e g) w =
      leaf_before w.its b w.rest w.after (w.whole ∙ ap (λ (k : List (List ℕ)). k ++ w.rest) n) e w.lines (w.good g) w.holds w.forest

end_before : (P : Instance) (F : Bounded) (x : Line) (ls : List Line) (v : Bounded) (s : Due) → judge P (nodes_due F []) x ≡ good s → Left P s ls v
    → Forest P F [] (x ∷ ls) v
unfolding judge tests next_due
end_before P F x ls v s e f =
    let g = good_none (nothing_due F) s (word_tests end_tree x) e in
    let r : Left P (nothing_due F) ls v = subst (λ (y : Due). Left P y ls v) (sym g.1) f in
    record {
      trees = [];
      grown = tt;
      lines = λ i. word_is end_tree x (not-false (is_line end_tree x) g.0.0) i ∷ r.0 i;
      gives = r.1;
    }

part_before : (P : Instance) (F : Bounded) (A : Above) (p : Part) (ps : List Pending) (x : Line) (ls : List Line) (v : Bounded) (s : Due)
    → PartWas P F A 0 ps (LeafHolds P A) p x s → Left P s ls v → ForestAfter P F A p ps (x ∷ ls) v
part_before P F A p ps x ls v s (ends_leaf l b n e g h) f = record {
  its = l;
  rest = b ∷ [];
  whole = n;
  after = ls;
  lines = ap (λ (y : Line). y ∷ ls) e;
  good = g;
  holds = h;
  forest = f;
}
part_before P F A p ps x ls v s (goes_on r b n e g) f = record {
  its = f.its;
  rest = b ∷ f.rest;
  whole = f.whole ∙ ap (λ (k : List (List ℕ)). k ++ f.rest) n ∙ append_assoc (part_lines p) (b ∷ []) f.rest;
  after = f.after;
  lines = λ i. e i ∷ f.lines i;
  good = λ m. f.good (g m);
  holds = f.holds;
  forest = f.forest;
}

writer_before : (P : Instance) (x : Line) (ls : List Line) (v : Bounded) (s : Due) → judge P writer_due x ≡ good s → Left P s ls v → Whole P (x ∷ ls) v
unfolding judge tests next_due
writer_before P x ls v s e f =
    let g = good_none (next_due P writer_due x) s (form_tests writer_form x []) e in
    let w = plain_passed writer_key 1 1 65535 x [] g.0 in
    let vs = numbers_of writer_form x in
    record {
      writer = vs at 0;
      after = ls;
      lines = ap (λ (y : Line). y ∷ ls) (w.line ∙ ap (λ (ws : List ℕ). ended (plain_line writer_key ws)) (one_value vs w.count));
      range = w.range 0 (omega (arith, w.count));
      forest = subst (λ (y : Due). Left P y ls v) (sym g.1) f;
    }

line_before : (P : Instance) (s s' : Due) (x : Line) (ls : List Line) (v : Bounded) → judge P s x ≡ good s' → Left P s' ls v → Left P s (x ∷ ls) v
unfolding judge tests
line_before P writer_due s' x ls v e f = writer_before P x ls v s' e f
line_before P (nodes_due F []) s' x ls v e f = end_before P F x ls v s' e f
line_before P (nodes_due F (p ∷ ps)) s' x ls v e f = node_before P F p ps x ls v s' (node_was P F p.above p.depth ps x s' e) f
line_before P (part_due F A p ps) s' x ls v e f = part_before P F A p ps x ls v s' (part_was_line P F A 0 ps p x s' e) f
line_before P (nothing_due F) s' x ls v e f = absurd (let z : ◌≡◌ {A = ℕ} 0 1 = cc in omega arith)

-- ---- all lines

none_left : (P : Instance) (s : Due) (v : Bounded) → end s ≡ some v → Left P s [] v
none_left P writer_due v e = absurd (let z : ◌≡◌ {A = ℕ} 0 1 = cc in omega arith)
none_left P (nodes_due F ps) v e = absurd (let z : ◌≡◌ {A = ℕ} 0 1 = cc in omega arith)
none_left P (part_due F A p ps) v e = absurd (let z : ◌≡◌ {A = ℕ} 0 1 = cc in omega arith)
none_left P (nothing_due F) v e = (refl, cc)

pub good_left : (P : Instance) (s last : Due) (ls : List Line) (v : Bounded) → Passed (tests P) (next_due P) s ls last → end last ≡ some v → Left P s ls v
unfolding judge
good_left P s last [] v none_yet e = none_left P s v e
good_left P s last (x ∷ ls) v (one_more {s' = s'} h d g) e =
    line_before P s s' x ls v (passed_line (tests P) (next_due P) end s s' x h d) (good_left P s' last ls v g e)
