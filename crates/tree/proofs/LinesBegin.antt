-- Lines that pass the tests of the form begin the text of a tree within the limits: from wherever they come to, zeros for what is left of a leaf and a price leaf of
-- zeros for each node that is still to be read complete it.
use mathlib.Core.Path.{◌≡◌, refl, sym, ap, subst, ◌∙◌}
use mathlib.Core.Bool.{Bool, true, false, cond}
use mathlib.Core.List.{List, [], ◌∷◌, ◌++◌, map}
use mathlib.Core.Logic.{◌⊎◌, inl, inr}
use Prim.Native.Nat.{ℕ, zero, suc, pred, ◌+◌, ◌-◌, ◌≤◌, ◌<◌}
use native.Mathlib.Nat.{eq-or-lt_of_le}
use native.Mathlib.Omega.{arith}
use lib.Dec.{eqb}
use lib.ListN.{length, replicate, length-replicate}
use borrow.Author.Tests.{eqb-false, ne_eqb}
use Rattle.model.specs.Instance.{Instance}
use Rattle.model.specs.Above.{Above, root}
use Rattle.model.specs.Figures.{no_figures}
use Rattle.model.specs.Ramps.{RampPrices}
use Rattle.model.specs.Tree.{Tree, price, ramp, leaf, GoodLeaf, Limits, Multipliers, StepMultipliers, ramped}
use Rattle.model.proofs.Zeros.{zeros_in}
use Rattle.text.specs.Lines.{Line, ended, end_tree}
use Rattle.text.specs.Course.{good}
use Rattle.text.specs.Rendering.{plain_line}
use Rattle.text.specs.Writer.{writer_key}
use Rattle.text.specs.Tests.{None, none_yet, one_more, AllPassed}
use Rattle.text.specs.Forms.{numbers_of}
use Rattle.text.proofs.Accepted.{Fits, rendered_line, rendered_good, rendered_numbers}
use Rattle.text.proofs.Tests.{good_none}
use Rattle.text.proofs.Verdicts.{form_passes}
use Rattle.text.proofs.WellFormed.{form_only, none_of_form}
use Rattle.tree.specs.Rendering.{reserve_key, up_key, down_key, node_lines, lines_after}
use Rattle.tree.specs.Places.{Part, priced, ramp_priced, with_steps, with_ups}
use Rattle.tree.specs.NodeLines.{line_kind_of, leaf_tests}
use Rattle.tree.specs.Refusals.{WrittenTree, InLimits, LineKind, split_line, count_line, short_line, crowd_line, stuck_line, price_line, ramp_line, part_form}
use Rattle.tree.specs.Course.{Pending, pending, Due, writer_due, nodes_due, part_due, nothing_due, tests, after_leaf, after_node, after_steps, after_numbers, after_part, next_due, judge, end}
use Rattle.tree.specs.Acceptance.{Bounded, bounded}
use Rattle.tree.proofs.Bounds.{add}
use Rattle.tree.proofs.Lines.{many_fit, multipliers_fit}
use Rattle.tree.proofs.StepLines.{one_longer, two_periods}
use Rattle.tree.proofs.Complete.{writer_good, end_good}
use Rattle.tree.proofs.Correct.{forest_lines}
use Rattle.tree.proofs.FormLines.{FormPasses, Limited, FormWhole, passed_left, both, node_passes}

-- ---- a text can be completed

module _ (P : Instance) (some : 1 ≤ P.periods) where
  abbrev zeros : List ℕ
  zeros = replicate P.periods 0

  zeros_fit : Multipliers P zeros
  zeros_fit = (length-replicate P.periods 0, zeros_in 1000000000 P.periods)

  abbrev no_steps : List ℕ
  no_steps = replicate (pred P.periods) 0

  no_steps_fit : StepMultipliers P no_steps
  no_steps_fit = (length-replicate (pred P.periods) 0, zeros_in 1000000000 (pred P.periods))

  -- what lines lead to: where a unit's line is due, not all units have theirs
  abbrev PossiblePart : Part → Type 0
  PossiblePart (priced q) = Unit {0}
  PossiblePart (ramp_priced q) = Unit {0}
  PossiblePart (with_steps q s k) = length k < ramped P
  PossiblePart (with_ups q s k x) = length k < ramped P

  abbrev Possible : Due → Type 0
  Possible writer_due = Unit {0}
  Possible (nodes_due F ps) = Unit {0}
  Possible (part_due F A p ps) = PossiblePart p
  Possible (nothing_due F) = Unit {0}

  steps_possible : (F : Bounded) (A : Above) (ps : List Pending) (q s : List ℕ) (k : List RampPrices) → length k ≤ ramped P → Possible (after_steps P F A ps q s k)
  steps_possible F A ps q s k h = go (eqb (ramped P) (length k)) refl
    where
      below : (length k ≡ ramped P) ⊎ (length k < ramped P) → (ramped P ≡ length k → ⊥) → length k < ramped P
      below (inl a) n = absurd (n (sym a))
      below (inr l) n = l

      go : (b : Bool) → eqb (ramped P) (length k) ≡ b → Possible (cond b (after_leaf P F A ps (ramp q s k)) (part_due F A (with_steps q s k) ps))
      go true e = tt
      go false e = below (eq-or-lt_of_le h) (eqb-false (ramped P) (length k) e)

  part_possible : (F : Bounded) (A : Above) (p : Part) (ps : List Pending) (vs : List ℕ) → PossiblePart p → Possible (after_numbers P F A p ps vs)
  part_possible F A (priced q) ps vs h = tt
  part_possible F A (ramp_priced q) ps vs h = steps_possible F A ps q vs [] (omega arith)
  part_possible F A (with_steps q s k) ps vs h = h
  part_possible F A (with_ups q s k x) ps vs h =
      let z : RampPrices = record { up = x; down = vs } in
      steps_possible F A ps q s (k ++ (z ∷ [])) (omega (arith, h, one_longer k z))

  next_possible : (s : Due) (x : Line) → Possible s → Possible (next_due P s x)
  unfolding next_due after_node after_part
  next_possible writer_due x h = tt
  next_possible (nodes_due F []) x h = tt
  next_possible (nodes_due F (p ∷ ps)) x h = go (line_kind_of x)
    where
      go : (k : LineKind) → Possible (after_node P F p ps k x)
      go split_line = tt
      go count_line = tt
      go short_line = tt
      go crowd_line = tt
      go stuck_line = tt
      go price_line = tt
      go ramp_line = tt
  next_possible (part_due F A p ps) x h = part_possible F A p ps (numbers_of (part_form P p) x) h
  next_possible (nothing_due F) x h = tt

  comes_to : (s s' : Due) (ls : List Line) → Possible s → FormPasses P s ls s' → Possible s'
  comes_to s s' [] h none_yet = h
  comes_to s s' (x ∷ ls) h (one_more {s' = u} n d p) = comes_to u s' ls (subst Possible d (next_possible s x h)) p

  -- lines that complete a text from where s is due on
  record Completes (s : Due) : Type 0 where
    pub lines : List Line
    pub gives : Bounded
    pub all : AllPassed (λ u l. form_only (tests P u l)) (next_due P) end gives s lines

  -- one line more in front
  one_before : {s s' : Due} (x : Line) → None (form_only (tests P s x)) → next_due P s x ≡ s' → Completes s' → Completes s
  one_before x n e c = record {
    lines = x ∷ c.lines;
    gives = c.gives;
    all = record { last = c.all.last; passed = one_more n e c.all.passed; ends = c.all.ends };
  }

  good_before : {s s' : Due} (x : Line) → judge P s x ≡ good s' → Completes s' → Completes s
  unfolding judge
  good_before {s} {s'} x e c = let g = good_none (next_due P s x) s' (tests P s x) e in one_before x (none_of_form (tests P s x) g.0) g.1 c

  nothing_more : (F : Bounded) → Completes (nothing_due F)
  nothing_more F = record { lines = []; gives = F; all = record { last = nothing_due F; passed = none_yet; ends = refl } }

  from_nodes : (ps : List Pending) (F : Bounded) → Completes (nodes_due F ps)
  unfolding GoodLeaf Limits
  from_nodes [] F = good_before (ended end_tree) (end_good P F) (nothing_more F)
  from_nodes (p ∷ ps) F =
      let t = leaf (price zeros zeros) in
      let c = from_nodes ps (add P p.above F t) in
      record {
        lines = map ended (node_lines t) ++ c.lines;
        gives = c.gives;
        all = record {
          last = c.all.last;
          passed = both P some (map ended (node_lines t)) c.lines (node_passes P some p.above p.depth F ps t (zeros_fit, zeros_fit)) c.all.passed;
          ends = c.all.ends;
        };
      }

  module _ (F : Bounded) (A : Above) (ps : List Pending) where
    -- one more line of a leaf
    part_before : (p : Part) (vs : List ℕ) → Fits (part_form P p) false vs → Completes (after_numbers P F A p ps vs) → Completes (part_due F A p ps)
    unfolding tests next_due leaf_tests after_part
    part_before p vs w c =
        let f = part_form P p in
        let l = rendered_line f false vs in
        one_before l ((form_passes f l []).1 (rendered_good f false vs w, tt)) (ap (after_numbers P F A p ps) (rendered_numbers f false vs w)) c

    -- the units after k, m of them
    from_steps : (m : ℕ) (q s : List ℕ) (k : List RampPrices) → length k + m ≡ ramped P → Completes (after_steps P F A ps q s k)
    from_steps zero q s k e = go (eqb (ramped P) (length k)) refl
      where
        go : (b : Bool) → eqb (ramped P) (length k) ≡ b → Completes (cond b (after_leaf P F A ps (ramp q s k)) (part_due F A (with_steps q s k) ps))
        go true c = from_nodes ps _
        go false c = absurd (eqb-false (ramped P) (length k) c (omega arith))
    from_steps (suc m) q s k e = go (eqb (ramped P) (length k)) (from_steps m q s (k ++ (record { up = no_steps; down = no_steps } ∷ [])) (omega (arith, one_longer k (record { up = no_steps; down = no_steps }))))
      where
        go : (b : Bool) → Completes (after_steps P F A ps q s (k ++ (record { up = no_steps; down = no_steps } ∷ [])))
            → Completes (cond b (after_leaf P F A ps (ramp q s k)) (part_due F A (with_steps q s k) ps))
        go true c = from_nodes ps _
        go false c =
            let two = two_periods P some (omega arith) in
            part_before (with_steps q s k) no_steps (many_fit (pred P.periods) up_key two no_steps no_steps_fit)
            (part_before (with_ups q s k no_steps) no_steps (many_fit (pred P.periods) down_key two no_steps no_steps_fit) c)

    from_part : (p : Part) → PossiblePart p → Completes (part_due F A p ps)
    from_part (priced q) h = part_before (priced q) zeros (multipliers_fit P reserve_key some zeros zeros_fit) (from_nodes ps _)
    from_part (ramp_priced q) h =
        part_before (ramp_priced q) zeros (multipliers_fit P reserve_key some zeros zeros_fit) (from_steps (ramped P) q zeros [] (omega arith))
    from_part (with_steps q s k) h =
        subst Completes (ap (λ (b : Bool). cond b (after_leaf P F A ps (ramp q s k)) (part_due F A (with_steps q s k) ps)) (ne_eqb (ramped P) (length k) (λ e. omega (arith, h, e))))
        (from_steps (ramped P - length k) q s k (omega (arith, h)))
    from_part (with_ups q s k x) h =
        let two = two_periods P some (omega (arith, h)) in
        let k' = k ++ (record { up = x; down = no_steps } ∷ []) in
        part_before (with_ups q s k x) no_steps (many_fit (pred P.periods) down_key two no_steps no_steps_fit)
        (from_steps (ramped P - suc (length k)) q s k' (omega (arith, h, one_longer k (record { up = x; down = no_steps }))))

  completes : (s : Due) → Possible s → Completes s
  completes writer_due h = good_before (ended (plain_line writer_key (1 ∷ []))) (writer_good P 1 (omega arith, omega arith)) (from_nodes (pending root 0 ∷ []) (bounded 1 no_figures))
  completes (nodes_due F ps) h = from_nodes ps F
  completes (part_due F A p ps) h = from_part F A ps p h
  completes (nothing_due F) h = nothing_more F

  -- ---- so lines that pass begin one

  pub record Begun (ls : List Line) : Type 0 where
    pub text : WrittenTree
    pub more : List Line
    pub whole : ls ++ more ≡ map ended (lines_after text.writer text.tree)
    pub within : InLimits P text (length ls)

  pub begun : (s : Due) (ls : List Line) → FormPasses P writer_due ls s → Begun ls
  begun s ls p =
      let c = completes s (comes_to writer_due s ls tt p) in
      let w = passed_left P writer_due c.all.last (ls ++ c.lines) c.gives (both P some ls c.lines p c.all.passed) c.all.ends in
      go c.lines w w.forest.trees w.forest.limited w.forest.lines
    where
      go : (more : List Line) (w : FormWhole P (ls ++ more)) (ts : List Tree) → Limited P (pending root 0 ∷ []) ts → w.after ≡ map ended (forest_lines ts) → Begun ls
      go more w [] g l = absurd g
      go more w (t ∷ u ∷ ts) g l = absurd g.1
      go more w (t ∷ []) g l = record {
        text = record { writer = w.writer; tree = t };
        more = more;
        whole = w.lines ∙ ap (λ (x : List Line). ended (plain_line writer_key (w.writer ∷ [])) ∷ x) l;
        within = (w.range, g.0);
      }
