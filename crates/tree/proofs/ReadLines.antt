-- The readers go from line to line: what one line does, what holds of every reading, one reading after another, and the reading of a
-- whole text as a reading of its tree.
use mathlib.Core.Path.{◌≡◌, refl, sym, ap, ◌∙◌}
use mathlib.Core.Bool.{Bool, true, false, cond}
use mathlib.Core.List.{List, [], ◌∷◌, ◌++◌}
use mathlib.Core.Option.{Option, none, some}
use Prim.Native.Nat.{ℕ, zero, suc, ◌+◌, ◌≤◌, ◌<◌}
use native.Mathlib.Omega.{arith}
use lib.Dec.{eqb}
use lib.ListN.{length, drop}
use Rattle.model.specs.Instance.{Instance}
use Rattle.model.specs.Above.{Above}
use Rattle.model.specs.Ramps.{RampPrices}
use Rattle.model.specs.Tree.{ramp, ramped}
use Rattle.model.specs.declared.figures.TreeFigures.{TreeFigures}
use Rattle.model.specs.Figures.{no_figures}
use Rattle.text.specs.Lines.{Line, missing, unended, ended, bytes_of, due, later, lines_of, line_at}
use Rattle.text.specs.Forms.{malformed, place_after, numbers_of}
use Rattle.text.specs.Course.{Found, refused, good, Judged, refused_at, judged_from}
use Rattle.text.specs.Tests.{found}
use Rattle.text.proofs.Tests.{found_refused_is, none_good, good_none}
use Rattle.text.proofs.LineByLine as steps
use Rattle.std.specs.Prelude.{Ok, Err}
use Rattle.tree.specs.NodeLines.{line_kind_of}
use Rattle.tree.specs.Refusals.{LineKind, split_line, count_line, short_line, crowd_line, stuck_line, price_line, ramp_line, part_form}
use Rattle.tree.specs.Places.{Part, priced, ramp_priced, with_steps, with_ups}
use Rattle.tree.specs.Course.{Pending, pending, Due, writer_due, nodes_due, part_due, nothing_due, tests, after_leaf, next_due, after_node, after_part, judge, end}
use Rattle.tree.specs.Acceptance.{Bounded, bounded}
use Rattle.tree.specs.ReadAnswers.{Read, stopped, reached, all_read, read_lines, read_from, node_read, trees_read, Placed}
use Rattle.tree.proofs.Rows.{unread, Moved, ended_moved}

-- ---- one line

-- a line that is missing is 12, whatever is due
judge_missing : (P : Instance) (s : Due) → judge P s missing ≡ refused 12
unfolding judge tests line_kind_of malformed
judge_missing P writer_due = refl
judge_missing P (nodes_due F []) = refl
judge_missing P (nodes_due F (p ∷ ps)) = refl
judge_missing P (part_due F A p ps) = refl
judge_missing P (nothing_due F) = refl

-- for a whole text
abbrev pub judged_at : Instance → List ℕ → ℕ → ℕ → Due → Judged Bounded
judged_at P text at l s = judged_from (judge P) end l s (lines_of (drop at text))

module _ (P : Instance) (text : List ℕ) (at l : ℕ) (s : Due) (e : end s ≡ none) where
  pub step_refused : (n : ℕ) → judge P s (line_at text at) ≡ refused n → judged_at P text at l s ≡ refused_at n l
  step_refused n j = steps.step_refused (judge P) end (judge_missing P) text at l s e n j

  pub step_good : (s' : Due) (place : ℕ) → judge P s (line_at text at) ≡ good s' → Moved text at place → judged_at P text at l s ≡ judged_at P text place (l + 1) s'
  step_good s' place j m =
      steps.step_good (judge P) end (judge_missing P) text at l s s' place j m.lines
      ∙ ap (λ (k : ℕ). judged_at P text place k s') (let q : suc l ≡ l + 1 = omega arith in q)

-- for a reader
module _ (P : Instance) (text : List ℕ) (at l : ℕ) where
  pub read_over : (F : Bounded) → read_from P text at l (nodes_due F []) ≡ reached at l F.figures
  unfolding read_lines
  read_over F = go (lines_of (drop at text))
    where
      go : (ls : List Line) → read_lines P at l (nodes_due F []) ls ≡ reached at l F.figures
      go [] = refl
      go (x ∷ ls) = refl

  module _ (s : Due) (e : all_read s ≡ none) where
    pub read_refused : (n : ℕ) → judge P s (line_at text at) ≡ refused n → read_from P text at l s ≡ stopped n l
    unfolding read_lines
    read_refused n j = go (lines_of (drop at text)) j
      where
        go : (ls : List Line) → judge P s (due ls) ≡ refused n → read_lines P at l s ls ≡ stopped n l
        go [] j =
            let z : refused 12 ≡ refused n = sym (judge_missing P s) ∙ j in
            let q : 12 ≡ n = cc in
            rw (e, ← q) refl
        go (x ∷ ls) j = rw (e, j) refl

    pub read_good : (s' : Due) (place : ℕ) → judge P s (line_at text at) ≡ good s' → Moved text at place → read_from P text at l s ≡ read_from P text place (l + 1) s'
    unfolding read_lines
    read_good s' place j m =
        go (lines_of (drop at text)) j
        ∙ ap (λ (ls : List Line). read_lines P (place_after (line_at text at) at) (l + 1) s' ls) (sym m.lines)
        ∙ ap (λ (k : ℕ). read_lines P k (l + 1) s' (lines_of (drop place text))) (sym m.place)
      where
        go : (ls : List Line) → judge P s (due ls) ≡ good s' → read_lines P at l s ls ≡ read_lines P (place_after (due ls) at) (l + 1) s' (later ls)
        go [] j = absurd (let z : refused 12 ≡ good s' = sym (judge_missing P s) ∙ j in let y : ◌≡◌ {A = ℕ} 0 1 = cc in omega arith)
        go (x ∷ ls) j = rw (e, j) refl

    -- what is due decides only by what the line is found to be
    pub read_same : (s' : Due) → all_read s' ≡ none → judge P s (line_at text at) ≡ judge P s' (line_at text at) → read_from P text at l s ≡ read_from P text at l s'
    unfolding read_lines
    read_same s' e' j = go (lines_of (drop at text)) j
      where
        go : (ls : List Line) → judge P s (due ls) ≡ judge P s' (due ls) → read_lines P at l s ls ≡ read_lines P at l s' ls
        go [] j = rw (e, e') refl
        go (x ∷ ls) j = rw (e, e', j) refl

-- ---- what is due within a tree

-- a line of a node; or no node is left
abbrev pub InTree : Due → Type 0
InTree writer_due = ⊥
InTree (nodes_due F ps) = Unit {0}
InTree (part_due F A p ps) = Unit {0}
InTree (nothing_due F) = ⊥

-- what was read before
abbrev pub held : Due → TreeFigures
held writer_due = no_figures
held (nodes_due F ps) = F.figures
held (part_due F A p ps) = F.figures
held (nothing_due F) = F.figures

abbrev by : ℕ → Bounded → Bounded
by w F = bounded w F.figures

-- the same in a text by the writer w, with the nodes `rest` after it
abbrev pub within : ℕ → List Pending → Due → Due
within w rest writer_due = writer_due
within w rest (nodes_due F ps) = nodes_due (by w F) (ps ++ rest)
within w rest (part_due F A p ps) = part_due (by w F) A p (ps ++ rest)
within w rest (nothing_due F) = nothing_due F

-- what holds where a line of a node is due, and x stands there
pub record NodeLine (P : Instance) (s : Due) (x : Line) : Type 0 where
  pub not_over : all_read s ≡ none
  pub none_over : (w : ℕ) (rest : List Pending) → all_read (within w rest s) ≡ none
  pub none_ends : (w : ℕ) (rest : List Pending) → end (within w rest s) ≡ none
  pub same_tests : (w : ℕ) (rest : List Pending) → tests P (within w rest s) x ≡ tests P s x
  pub same_next : (w : ℕ) (rest : List Pending) → next_due P (within w rest s) x ≡ within w rest (next_due P s x)
  pub goes_in : InTree (next_due P s x)
  pub counted : (held (next_due P s x)).splits + (held (next_due P s x)).leaves ≤ (held s).splits + (held s).leaves + 1
  pub unended_12 : (b : List ℕ) → judge P s (unended b) ≡ refused 12

-- what is due after a line that is good where s is due: the same in any text, still in the tree, and at most one split or leaf more
abbrev Goes : Due → (ℕ → List Pending → Due) → Due → Type 0
Goes s inside s' =
    ((w : ℕ) (rest : List Pending) → inside w rest ≡ within w rest s')
    × InTree s' × ((held s').splits + (held s').leaves ≤ (held s).splits + (held s).leaves + 1)

node_line : (P : Instance) (F : Bounded) (p : Pending) (ps : List Pending) (x : Line) → NodeLine P (nodes_due F (p ∷ ps)) x
unfolding judge tests malformed next_due after_node
node_line P F p ps x = record {
  not_over = refl;
  none_over = λ w rest. refl;
  none_ends = λ w rest. refl;
  same_tests = λ w rest. refl;
  same_next = (go (line_kind_of x)).0;
  goes_in = (go (line_kind_of x)).1;
  counted = (go (line_kind_of x)).2;
  unended_12 = λ b. refl;
}
  where
    go : (k : LineKind) → Goes (nodes_due F (p ∷ ps)) (λ w rest. after_node P (by w F) p (ps ++ rest) k x) (after_node P F p ps k x)
    go split_line = ((λ w rest. refl), tt, omega arith)
    go count_line = ((λ w rest. refl), tt, omega arith)
    go short_line = ((λ w rest. refl), tt, omega arith)
    go crowd_line = ((λ w rest. refl), tt, omega arith)
    go stuck_line = ((λ w rest. refl), tt, omega arith)
    go price_line = ((λ w rest. refl), tt, omega arith)
    go ramp_line = ((λ w rest. refl), tt, omega arith)

part_line : (P : Instance) (F : Bounded) (A : Above) (p : Part) (ps : List Pending) (x : Line) → NodeLine P (part_due F A p ps) x
unfolding judge tests malformed next_due after_part
part_line P F A p ps x = record {
  not_over = refl;
  none_over = λ w rest. refl;
  none_ends = λ w rest. refl;
  same_tests = λ w rest. refl;
  same_next = (go p).0;
  goes_in = (go p).1;
  counted = (go p).2;
  unended_12 = λ b. refl;
}
  where
    -- the ramp leaf is read, or the next unit's lines are due
    after_units : (q s : List ℕ) (k : List RampPrices) (b : Bool)
        → Goes (part_due F A p ps) (λ w rest. cond b (after_leaf P (by w F) A (ps ++ rest) (ramp q s k)) (part_due (by w F) A (with_steps q s k) (ps ++ rest)))
        (cond b (after_leaf P F A ps (ramp q s k)) (part_due F A (with_steps q s k) ps))
    after_units q s k true = ((λ w rest. refl), tt, omega arith)
    after_units q s k false = ((λ w rest. refl), tt, omega arith)

    go : (p : Part) → Goes (part_due F A p ps) (λ w rest. after_part P (by w F) A p (ps ++ rest) x) (after_part P F A p ps x)
    go (priced q) = ((λ w rest. refl), tt, omega arith)
    go (ramp_priced q) = after_units q (numbers_of (part_form P (ramp_priced q)) x) [] (eqb (ramped P) 0)
    go (with_steps q s k) = ((λ w rest. refl), tt, omega arith)
    go (with_ups q s k y) =
        let k' = k ++ (record { up = y; down = numbers_of (part_form P (with_ups q s k y)) x } ∷ []) in
        after_units q s k' (eqb (ramped P) (length k'))

-- ---- what holds where no node is left, and of each line of a node, holds of every reading

good_ended : (P : Instance) (s : Due) → ((b : List ℕ) → judge P s (unended b) ≡ refused 12) → (x : Line) (s' : Due) → judge P s x ≡ good s' → x ≡ ended (bytes_of x)
good_ended P s u missing s' j = absurd (let z : refused 12 ≡ good s' = sym (judge_missing P s) ∙ j in let y : ◌≡◌ {A = ℕ} 0 1 = cc in omega arith)
good_ended P s u (unended b) s' j = absurd (let z : refused 12 ≡ good s' = sym (u b) ∙ j in let y : ◌≡◌ {A = ℕ} 0 1 = cc in omega arith)
good_ended P s u (ended b) s' j = refl

-- the line x is refused, or good, in any text and with any nodes after
pub record Stops (P : Instance) (s : Due) (x : Line) (n : ℕ) : Type 0 where
  pub alone : judge P s x ≡ refused n
  pub inside : (w : ℕ) (rest : List Pending) → judge P (within w rest s) x ≡ refused n

pub record Passes (P : Instance) (s : Due) (x : Line) : Type 0 where
  pub alone : judge P s x ≡ good (next_due P s x)
  pub inside : (w : ℕ) (rest : List Pending) → judge P (within w rest s) x ≡ good (within w rest (next_due P s x))

module _ (P : Instance) (text : List ℕ) (Claim : ℕ → ℕ → Due → Type 0)
    (done : (at l : ℕ) (F : Bounded) → Claim at l (nodes_due F []))
    (stop : (at l : ℕ) (s : Due) → NodeLine P s (line_at text at) → (n : ℕ) → Stops P s (line_at text at) n → Claim at l s)
    (pass : (at l : ℕ) (s : Due) → NodeLine P s (line_at text at) → Passes P s (line_at text at) → Moved text at (place_after (line_at text at) at)
    → Claim (place_after (line_at text at) at) (l + 1) (next_due P s (line_at text at)) → Claim at l s) where
  -- of every reading with fewer lines left
  abbrev Below : ℕ → Type 0
  Below k = (at l : ℕ) (s : Due) → InTree s → unread text at < k → Claim at l s

  line_of : (k : ℕ) → Below k → (at l : ℕ) (s : Due) → NodeLine P s (line_at text at) → unread text at ≤ k → Claim at l s
  unfolding judge
  line_of k below at l s i h = go (judge P s (line_at text at)) refl
    where
      go : (f : Found Due) → found (tests P s (line_at text at)) (next_due P s (line_at text at)) ≡ f → Claim at l s
      go (refused n) j =
          let first = (found_refused_is (next_due P s (line_at text at)) n (tests P s (line_at text at))).0 j in
          stop at l s i n (record { alone = j; inside = λ w rest. rw (i.same_tests w rest) ((found_refused_is _ n (tests P s (line_at text at))).1 first) })
      go (good s') j =
          let none = (good_none (next_due P s (line_at text at)) s' (tests P s (line_at text at)) j).0 in
          let m = ended_moved text at _ (good_ended P s i.unended_12 (line_at text at) s' j) in
          pass at l s i (record {
            alone = none_good _ (tests P s (line_at text at)) none;
            inside = λ w rest. rw (i.same_tests w rest) (none_good _ (tests P s (line_at text at)) none ∙ ap good (i.same_next w rest));
          }) m (below _ (l + 1) _ i.goes_in (let z = m.fewer in omega arith))

  reading_of : (k : ℕ) → Below k → (at l : ℕ) (s : Due) → InTree s → unread text at ≤ k → Claim at l s
  reading_of k below at l writer_due t h = absurd t
  reading_of k below at l (nodes_due F []) t h = done at l F
  reading_of k below at l (nodes_due F (p ∷ ps)) t h = line_of k below at l (nodes_due F (p ∷ ps)) (node_line P F p ps (line_at text at)) h
  reading_of k below at l (part_due F A p ps) t h = line_of k below at l (part_due F A p ps) (part_line P F A p ps (line_at text at)) h
  reading_of k below at l (nothing_due F) t h = absurd t

  all_below : (k : ℕ) → Below k
  all_below zero at l s t h = absurd (omega arith)
  all_below (suc k) at l s t h = reading_of k (all_below k) at l s t (omega arith)

  pub every_reading : (at l : ℕ) (s : Due) → InTree s → Claim at l s
  every_reading at l s t = all_below (suc (unread text at)) at l s t (omega arith)

-- ---- one reading after another, and a whole text

module _ (P : Instance) (text : List ℕ) {X : Type 0} (course : ℕ → ℕ → Due → X) (refusal : ℕ → ℕ → X) (w : ℕ) (rest : List Pending) where
  -- on from what was read, by the writer w, with `rest` still to be read
  abbrev pub on : Read → X
  on (Err b) = refusal b.number b.line
  on (Ok r) = course r.next r.line (nodes_due (bounded w r.figures) rest)

  module _ (stop : (at l : ℕ) (s : Due) → NodeLine P s (line_at text at) → (n : ℕ) → judge P (within w rest s) (line_at text at) ≡ refused n → course at l (within w rest s) ≡ refusal n l)
      (pass : (at l : ℕ) (s s' : Due) → NodeLine P s (line_at text at) → judge P (within w rest s) (line_at text at) ≡ good s' → Moved text at (place_after (line_at text at) at)
      → course at l (within w rest s) ≡ course (place_after (line_at text at) at) (l + 1) s') where
    pub goes_on : (at l : ℕ) (s : Due) → InTree s → course at l (within w rest s) ≡ on (read_from P text at l s)
    goes_on = every_reading P text (λ at l s. course at l (within w rest s) ≡ on (read_from P text at l s))
        (λ at l F. ap on (sym (read_over P text at l F)))
        (λ at l s i n j. stop at l s i n (j.inside w rest) ∙ ap on (sym (read_refused P text at l s i.not_over n j.alone)))
        (λ at l s i j m c. pass at l s _ i (j.inside w rest) m ∙ c ∙ ap on (sym (read_good P text at l s i.not_over _ _ j.alone m)))

-- what is judged after a node, with `rest` still to be read
abbrev pub read_on : Instance → List ℕ → ℕ → List Pending → Read → Judged Bounded
read_on P text w rest r = on P text (judged_at P text) refused_at w rest r

module _ (P : Instance) (text : List ℕ) (at l : ℕ) (S : TreeFigures) (A : Above) (d : ℕ) where
  -- document 01's judgement of a text, from a node on, is that of what follows the node as it was read
  pub node_judged : (w : ℕ) (rest : List Pending) → judged_at P text at l (nodes_due (bounded w S) (pending A d ∷ rest)) ≡ read_on P text w rest (node_read P text at l S A d)
  unfolding node_read
  node_judged w rest = goes_on P text (judged_at P text) refused_at w rest
      (λ at l s i n j. step_refused P text at l (within w rest s) (i.none_ends w rest) n j)
      (λ at l s s' i j m. step_good P text at l (within w rest s) (i.none_ends w rest) s' _ j m)
      at l (nodes_due (bounded 0 S) (pending A d ∷ [])) tt

  -- the second tree of a split is read on from the first
  pub second_read : (B : Above) → trees_read P text at l S A B d ≡ on P text (read_from P text) stopped 0 (pending B d ∷ []) (node_read P text at l S A d)
  unfolding node_read trees_read
  second_read B =
      let rest = pending B d ∷ [] in
      goes_on P text (read_from P text) stopped 0 rest
      (λ at l s i n j. read_refused P text at l (within 0 rest s) (i.none_over 0 rest) n j)
      (λ at l s s' i j m. read_good P text at l (within 0 rest s) (i.none_over 0 rest) s' _ j m)
      at l (nodes_due (bounded 0 S) (pending A d ∷ [])) tt

-- ---- places

-- after a line
pub moved_placed : (text : List ℕ) (at l : ℕ) (S : TreeFigures) → Placed text at l S → (place : ℕ) → Moved text at place → (S' : TreeFigures)
    → S'.splits + S'.leaves ≤ S.splits + S.leaves + 1 → Placed text place (l + 1) S'
moved_placed text at l S p place m S' h =
    let a = p.short in
    let b = p.numbered in
    let c = p.counted in
    let d = m.past in
    let e = m.inside in
    record { short = a; inside = e; numbered = omega arith; counted = omega arith }

-- one line at least is still to come
abbrev left : Option TreeFigures → ℕ
left none = 1
left (some S) = 0

left_one : (o : Option TreeFigures) → left o ≤ 1
left_one none = omega arith
left_one (some S) = omega arith

-- after what was read, if it was, at least n lines fewer are left
abbrev Ends : List ℕ → ℕ → ℕ → Read → Type 0
Ends text at n (Err b) = Unit {0}
Ends text at n (Ok r) = Placed text r.next r.line r.figures × (unread text r.next + n ≤ unread text at)

later_ends : (text : List ℕ) (at place n k : ℕ) (r : Read) → unread text place + 1 ≡ unread text at → k ≤ 1 → Ends text place n r → Ends text at k r
later_ends text at place n k (Err b) e h c = tt
later_ends text at place n k (Ok r) e h c = (c.0, let x = c.1 in omega arith)

reading_ends : (P : Instance) (text : List ℕ) (at l : ℕ) (s : Due) → InTree s → Placed text at l (held s) → Ends text at (left (all_read s)) (read_from P text at l s)
reading_ends P text = every_reading P text (λ at l s. Placed text at l (held s) → Ends text at (left (all_read s)) (read_from P text at l s))
    (λ at l F p. rw (read_over P text at l F) (p, omega arith))
    (λ at l s i n j p. rw (read_refused P text at l s i.not_over n j.alone) tt)
    (λ at l s i j m c p.
    let x = line_at text at in
    rw (read_good P text at l s i.not_over (next_due P s x) (place_after x at) j.alone m)
    (later_ends text at (place_after x at) (left (all_read (next_due P s x))) (left (all_read s)) (read_from P text (place_after x at) (l + 1) (next_due P s x)) m.fewer (left_one (all_read s))
    (c (moved_placed text at l (held s) p (place_after x at) m (held (next_due P s x)) i.counted))))

-- after a tree, if one was read, fewer lines are left
abbrev pub Past : List ℕ → ℕ → Read → Type 0
Past text at (Err b) = Unit {0}
Past text at (Ok r) = Placed text r.next r.line r.figures × (unread text r.next < unread text at)

pub node_past : (P : Instance) (text : List ℕ) (at l : ℕ) (S : TreeFigures) (A : Above) (d : ℕ) → Placed text at l S → (r : Read) → r ≡ node_read P text at l S A d → Past text at r
unfolding node_read
node_past P text at l S A d p r e =
    let s = nodes_due (bounded 0 S) (pending A d ∷ []) in
    go r (rw e (reading_ends P text at l s tt (record { short = p.short; inside = p.inside; numbered = p.numbered; counted = p.counted })))
  where
    go : (r : Read) → Ends text at 1 r → Past text at r
    go (Err b) e = tt
    go (Ok r) e = (e.0, let x = e.1 in omega arith)
