-- Which number refuses a line of a tree's text where a node is due, whatever stands after it; and of count, short and crowd lines, where each number comes.
use mathlib.Core.Path.{◌≡◌, refl, sym, ap, subst, ◌∙◌}
use mathlib.Core.Bool.{Bool, false}
use mathlib.Core.List.{List, [], ◌∷◌, ◌++◌}
use mathlib.Core.Logic.{◌↔◌}
use Prim.Native.Nat.{ℕ, suc, ◌+◌, ◌-◌, ◌≤◌, ◌<◌}
use native.Mathlib.Omega.{arith}
use lib.ListN.{length}
use Rattle.model.specs.Instance.{Instance, ◌at◌}
use Rattle.model.specs.Above.{Above, root, count}
use Rattle.model.specs.Leaf.{available, Crowded}
use Rattle.model.specs.Tree.{Narrows, GoodLeaf, LeafHolds}
use Rattle.text.specs.Lines.{Line, ended, later, lines_of, end_tree}
use Rattle.text.specs.Forms.{Form, plain, numbers_of}
use Rattle.text.specs.Rendering.{plain_line}
use Rattle.text.specs.LineRefused.{Renders, InRanges, Unfit, shows_none, miscounted, out_of_range, Beginning, at_numbers}
use Rattle.text.proofs.Accepted.{rendered_numbers}
use Rattle.text.proofs.WhichLine as which
use Rattle.tree.specs.Rendering.{short_key, crowd_key, fork_line}
use Rattle.tree.specs.Places.{node_at, LineAt}
use Rattle.tree.specs.Refusals.{count_line, node_form, WrittenTree, written_lines, NodeBreaks, no_node, unfit, again, deeper, deeper_count, short_fails, stuck_fails, crowd_fails, no_narrower, Breaks, at_node, HoldsSoFar, RefusedAt}
use Rattle.tree.specs.Course.{tests, next_due, end}
use Rattle.tree.proofs.Lines.{one_fits}
use Rattle.tree.proofs.NodeLines.{count_fits}
use Rattle.tree.proofs.WhichLine.{node_breaks, all_follow}

-- ---- any node line, where the lines before it begin the text of a tree

module _ (P : Instance) (some : 1 ≤ P.periods) (text : List ℕ) (before rest : List Line) (x : Line) (lines : later (lines_of text) ≡ before ++ (x ∷ rest))
    (v : WrittenTree) (b : Beginning written_lines (HoldsSoFar P) before v) (A : Above) (d i : ℕ) (k : length before ≡ suc i) (place : LineAt root 0 v.tree i (node_at A d)) where
  pub node_refused_is : (n : ℕ) → RefusedAt P text n (2 + length before) ↔ NodeBreaks P A d x n
  node_refused_is n =
      let law = which.refused_there (tests P) (next_due P) end written_lines end_tree (HoldsSoFar P) (Breaks P) (all_follow P some) n (2 + length before) (later (lines_of text)) v before
      (x ∷ rest) lines b refl in
      (λ r. node_breaks P some v (length before) (x ∷ rest) i A d k place n (law.0 r), λ h. law.1 (at_numbers (at_node k place h)))

-- ---- short, crowd and count lines

-- the numbers by which a line does not fit a form are 12 to 14
pub unfit_most : {f : Form} {l : Line} {n : ℕ} → Unfit f l n → n ≤ 14
unfit_most (shows_none never) = omega arith
unfit_most (miscounted neg vs r never) = omega arith
unfit_most (out_of_range neg vs r c never) = omega arith

module _ (P : Instance) (A : Above) (d : ℕ) where
  -- the period that a line names is one
  one_period : (key : List ℕ) (t u : ℕ) → t < P.periods → u < P.periods → ended (plain_line key (suc u ∷ [])) ≡ ended (plain_line key (suc t ∷ [])) → t ≡ u
  one_period key t u h k e =
      let f = plain key 1 1 P.periods in
      let q : suc u ∷ [] ≡ suc t ∷ [] =
      sym (rendered_numbers f false (suc u ∷ []) (one_fits key P.periods u k)) ∙ ap (numbers_of f) e ∙ rendered_numbers f false (suc t ∷ []) (one_fits key P.periods t h) in
      omega (arith, ap (λ (vs : List ℕ). vs at 0) q)

  -- 33 exactly where what is available reaches demand and spare
  pub short_refused_is : (t : ℕ) → t < P.periods
      → NodeBreaks P A d (ended (plain_line short_key (suc t ∷ []))) 33 ↔ (available P A t < P.demand at t + P.spare at t → ⊥)
  unfolding GoodLeaf LeafHolds
  short_refused_is t h = (λ b. forth 33 _ b refl refl, λ f. short_fails t h refl (λ k. f k.1))
    where
      forth : (n : ℕ) (l : Line) → NodeBreaks P A d l n → n ≡ 33 → l ≡ ended (plain_line short_key (suc t ∷ [])) → available P A t < P.demand at t + P.spare at t → ⊥
      forth n l (no_node k) e q c = omega (arith, e)
      forth n l (unfit k neg vs r u) e q c = omega (arith, e, unfit_most u)
      forth n l (again U v g k line f) e q c = omega (arith, e)
      forth n l (deeper U v g line b) e q c = omega (arith, e)
      forth n l (deeper_count v K g k line b) e q c = omega (arith, e)
      forth n l (short_fails u g line f) e q c =
          f (g, subst (λ (v : ℕ). available P A v < P.demand at v + P.spare at v) (one_period short_key t u h g (sym line ∙ q)) c)
      forth n l (stuck_fails U g line f) e q c = omega (arith, e)
      forth n l (crowd_fails u g line f) e q c = omega (arith, e)
      forth n l (no_narrower v K g k b line f) e q c = omega (arith, e)

  -- 36 exactly where the leaf's rule does not hold
  pub crowd_refused_is : (t : ℕ) → t < P.periods → NodeBreaks P A d (ended (plain_line crowd_key (suc t ∷ []))) 36 ↔ (Crowded P A t → ⊥)
  unfolding GoodLeaf LeafHolds
  crowd_refused_is t h = (λ b. forth 36 _ b refl refl, λ f. crowd_fails t h refl (λ k. f k.1))
    where
      forth : (n : ℕ) (l : Line) → NodeBreaks P A d l n → n ≡ 36 → l ≡ ended (plain_line crowd_key (suc t ∷ [])) → Crowded P A t → ⊥
      forth n l (no_node k) e q c = omega (arith, e)
      forth n l (unfit k neg vs r u) e q c = omega (arith, e, unfit_most u)
      forth n l (again U v g k line f) e q c = omega (arith, e)
      forth n l (deeper U v g line b) e q c = omega (arith, e)
      forth n l (deeper_count v K g k line b) e q c = omega (arith, e)
      forth n l (short_fails v g line f) e q c = omega (arith, e)
      forth n l (stuck_fails U g line f) e q c = omega (arith, e)
      forth n l (crowd_fails u g line f) e q c = f (g, subst (Crowded P A) (one_period crowd_key t u h g (sym line ∙ q)) c)
      forth n l (no_narrower v K g k b line f) e q c = omega (arith, e)

  module _ (t K : ℕ) (h : t < P.periods) (k : K ≤ length P.units - 1) where
    -- 37 exactly where the count is no narrower than those that stand
    pub count_refused_is : d ≤ 63 → NodeBreaks P A d (ended (fork_line (count t K))) 37 ↔ (Narrows A t K → ⊥)
    count_refused_is b = (λ x. forth 37 _ x refl refl, λ f. no_narrower t K h k b refl f)
      where
        same : (u J : ℕ) → u < P.periods → J ≤ length P.units - 1 → ended (fork_line (count u J)) ≡ ended (fork_line (count t K)) → (t ≡ u) × (K ≡ J)
        same u J i j e =
            let f = node_form P count_line in
            let q : suc u ∷ J ∷ [] ≡ suc t ∷ K ∷ [] =
            sym (rendered_numbers f false (suc u ∷ J ∷ []) (count_fits P u J i j)) ∙ ap (numbers_of f) e ∙ rendered_numbers f false (suc t ∷ K ∷ []) (count_fits P t K h k) in
            (omega (arith, ap (λ (vs : List ℕ). vs at 0) q), sym (ap (λ (vs : List ℕ). vs at 1) q))

        forth : (n : ℕ) (l : Line) → NodeBreaks P A d l n → n ≡ 37 → l ≡ ended (fork_line (count t K)) → Narrows A t K → ⊥
        forth n l (no_node g) e q c = omega (arith, e)
        forth n l (unfit g neg vs r u) e q c = omega (arith, e, unfit_most u)
        forth n l (again U v g i line f) e q c = omega (arith, e)
        forth n l (deeper U v g line x) e q c = omega (arith, e)
        forth n l (deeper_count v J g i line x) e q c = omega (arith, e)
        forth n l (short_fails v g line f) e q c = omega (arith, e)
        forth n l (stuck_fails U g line f) e q c = omega (arith, e)
        forth n l (crowd_fails v g line f) e q c = omega (arith, e)
        forth n l (no_narrower u J i j x line f) e q c =
            let z = same u J i j (sym line ∙ q) in
            f (subst (λ (w : ℕ). Narrows A w J) z.0 (subst (Narrows A t) z.1 c))

    -- 32 exactly where it stands too deep, whatever the count
    pub count_deep_is : NodeBreaks P A d (ended (fork_line (count t K))) 32 ↔ (63 < d)
    count_deep_is = (λ x. forth 32 _ x refl, λ b. deeper_count t K h k refl b)
      where
        forth : (n : ℕ) (l : Line) → NodeBreaks P A d l n → n ≡ 32 → 63 < d
        forth n l (no_node g) e = absurd (omega (arith, e))
        forth n l (unfit g neg vs r u) e = absurd (omega (arith, e, unfit_most u))
        forth n l (again U v g i line f) e = absurd (omega (arith, e))
        forth n l (deeper U v g line x) e = x
        forth n l (deeper_count v J g i line x) e = x
        forth n l (short_fails v g line f) e = absurd (omega (arith, e))
        forth n l (stuck_fails U g line f) e = absurd (omega (arith, e))
        forth n l (crowd_fails v g line f) e = absurd (omega (arith, e))
        forth n l (no_narrower u J i j x line f) e = absurd (omega (arith, e))

  module _ (l : Line) (neg : Bool) (vs : List ℕ) (r : Renders (node_form P count_line) l neg vs) where
    -- 14 by any count of values but two
    pub count_miscounted : (length vs ≡ 2 → ⊥) → NodeBreaks P A d l 14
    count_miscounted n = unfit count_line neg vs r (miscounted neg vs r n)

    -- of two values: 13 where the second is the number of units or more
    pub count_too_large : 1 ≤ length P.units → length vs ≡ 2 → length P.units ≤ vs at 1 → NodeBreaks P A d l 13
    count_too_large s c g = unfit count_line neg vs r (out_of_range neg vs r c (above vs c g))
      where
        above : (vs : List ℕ) → length vs ≡ 2 → length P.units ≤ vs at 1 → InRanges vs (1 ∷ 0 ∷ []) (P.periods ∷ (length P.units - 1) ∷ []) → ⊥
        above [] c g h = omega (arith, c)
        above (u ∷ []) c g h = omega (arith, c)
        above (u ∷ v ∷ []) c g h = omega (arith, s, g, h.1.1.1.0)
        above (u ∷ v ∷ w ∷ ws) c g h = omega (arith, c)
