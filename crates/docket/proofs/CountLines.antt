-- Document 02, [1], after a list of texts: what refuses a line of a tree where a node is due, and a count, a short or a crowd line there.
use mathlib.Core.Path.{◌≡◌, refl, sym, ap, subst, ◌∙◌}
use mathlib.Core.Bool.{Bool}
use mathlib.Core.List.{List, [], ◌∷◌}
use mathlib.Core.Logic.{◌↔◌}
use mathlib.Core.Option.{Option, none, some}
use Prim.Native.Nat.{ℕ, suc, ◌+◌, ◌-◌, ◌≤◌, ◌<◌}
use native.Mathlib.Omega.{arith}
use lib.ListN.{length}
use Rattle.model.specs.Instance.{Instance, ◌at◌}
use Rattle.model.specs.Ranges.{WellFormed}
use Rattle.model.specs.Above.{Above, count}
use Rattle.model.specs.Leaf.{available, Crowded}
use Rattle.model.specs.Tree.{Narrows}
use Rattle.refusal.specs.Refusals.{line_refusal}
use Rattle.text.specs.Lines.{Line, ended, bytes_of, kind_schedule, kind_tree}
use Rattle.text.specs.Rendering.{plain_line}
use Rattle.text.specs.LineRefused.{Renders}
use Rattle.tree.specs.Rendering.{short_key, crowd_key, fork_line}
use Rattle.tree.specs.Refusals.{count_line, node_form, NodeBreaks, RefusedAt}
use Rattle.tree.proofs.NodeRefusals.{node_refused_is, short_refused_is, crowd_refused_is, count_refused_is, count_deep_is, count_miscounted, count_too_large}
use Rattle.answer.specs.StatedAnswers.{refused as answered_refused}
use Rattle.docket.specs.Verdicts.{Verdict}
use Rattle.docket.specs.Texts.{Begins, refused_line, Is, Are, too_long, no_kind, second_problem, schedule_refused, a_schedule, tree_refused, a_tree}
use Rattle.docket.specs.Promised.{answer, given}
use Rattle.docket.specs.Requested.{NodeLineDue}
use Rattle.docket.proofs.OneVerdict.{part, Fine}
use Rattle.docket.proofs.EachText as each

-- a text that begins as a tree and is refused at a line after its first is refused there as a tree
pub refused_in_tree : (P : Instance) (text : List ℕ) (n m : ℕ) (v : Verdict) → Is (some P) text v → v ≡ refused_line n m → Begins text kind_tree → 2 ≤ m → RefusedAt P text n m
refused_in_tree P text n m v (too_long h) e b k = absurd (omega (arith, k, ap (part (λ r. r.line)) e))
refused_in_tree P text n m v (no_kind h p s t) e b k = absurd (t b)
refused_in_tree P text n m v (second_problem h c) e b k = absurd (omega (arith, k, ap (part (λ r. r.line)) e))
refused_in_tree P text n m v (schedule_refused r h c x) e b k =
    let q : ended kind_schedule ≡ ended kind_tree = sym c ∙ b in
    absurd (omega (arith, ap (λ (l : Line). bytes_of l at 5) q))
refused_in_tree P text n m v (a_schedule w s h x ok rows meets) e b k = absurd (omega (arith, k, ap (part (λ r. r.line)) e))
refused_in_tree P text n m v (tree_refused i l h c r) e b k =
    let p : i ≡ n = ap (part (λ r. r.number)) e in
    let q : l ≡ m = ap (part (λ r. r.line)) e in
    subst (λ (j : ℕ). RefusedAt P text n j) q (subst (λ (j : ℕ). RefusedAt P text j l) p r)
refused_in_tree P text n m v (a_tree w t h x ok within holds) e b k = absurd (omega (arith, k, ap (part (λ r. r.line)) e))

module _ (texts : List (List ℕ)) (vs : List Verdict) (are : Are none texts vs) (P : Instance) (known : given vs ≡ some P) where
  formed : WellFormed P
  formed = subst Fine known (each.fine texts vs are)

  module _ (text : List ℕ) (before : List Line) (A : Above) (d : ℕ) where
    -- exactly the numbers that refuse the line where a node is due
    pub node_refused : (x : Line) → NodeLineDue P text before x A d → (n : ℕ) → (answer texts text ≡ answered_refused n (2 + length before) 0 0) ↔ NodeBreaks P A d x n
    node_refused x u n = (
      λ e. (there n).0 (refused_in_tree P text n m _ (subst (λ (o : Option Instance). Is o text (refused_line n m)) known (as_refused.0 e)) refl u.begins (omega arith)),
      λ h. as_refused.1 (subst (λ (o : Option Instance). Is o text (refused_line n m)) (sym known) (tree_refused n m u.short u.begins ((there n).1 h))),
    )
      where
        m : ℕ
        m = 2 + length before

        there : (n : ℕ) → RefusedAt P text n m ↔ NodeBreaks P A d x n
        there = node_refused_is P formed.periods_in.0 text before u.rest x u.lines u.some_tree u.beginning A d u.nodes_before u.after_writer u.place

        as_refused : (answer texts text ≡ answered_refused n m 0 0) ↔ Is (given vs) text (refused_line n m)
        as_refused = each.refused_as texts vs are text (line_refusal n m)

    pub count_gets_14 : (x : Line) (neg : Bool) (ns : List ℕ) → NodeLineDue P text before x A d → Renders (node_form P count_line) x neg ns → (length ns ≡ 2 → ⊥)
        → answer texts text ≡ answered_refused 14 (2 + length before) 0 0
    count_gets_14 x neg ns u r h = (node_refused x u 14).1 (count_miscounted P A d x neg ns r h)

    pub count_gets_13 : (x : Line) (neg : Bool) (ns : List ℕ) → NodeLineDue P text before x A d → Renders (node_form P count_line) x neg ns → length ns ≡ 2
        → length P.units ≤ ns at 1 → answer texts text ≡ answered_refused 13 (2 + length before) 0 0
    count_gets_13 x neg ns u r c h = (node_refused x u 13).1 (count_too_large P A d x neg ns r formed.units_in.0 c h)

    module _ (t K : ℕ) (u : NodeLineDue P text before (ended (fork_line (count t K))) A d) (h : t < P.periods) (k : K ≤ length P.units - 1) where
      pub count_gets_32 : (answer texts text ≡ answered_refused 32 (2 + length before) 0 0) ↔ (63 < d)
      count_gets_32 =
          let here = node_refused (ended (fork_line (count t K))) u 32 in
          let law = count_deep_is P A d t K h k in
          (λ e. law.0 (here.0 e), λ f. here.1 (law.1 f))

      pub count_gets_37 : d ≤ 63 → (answer texts text ≡ answered_refused 37 (2 + length before) 0 0) ↔ (Narrows A t K → ⊥)
      count_gets_37 b =
          let here = node_refused (ended (fork_line (count t K))) u 37 in
          let law = count_refused_is P A d t K h k b in
          (λ e. law.0 (here.0 e), λ f. here.1 (law.1 f))

    pub short_gets_33 : (t : ℕ) → NodeLineDue P text before (ended (plain_line short_key (suc t ∷ []))) A d → t < P.periods
        → (answer texts text ≡ answered_refused 33 (2 + length before) 0 0) ↔ (available P A t < P.demand at t + P.spare at t → ⊥)
    short_gets_33 t u h =
        let here = node_refused (ended (plain_line short_key (suc t ∷ []))) u 33 in
        let law = short_refused_is P A d t h in
        (λ e. law.0 (here.0 e), λ f. here.1 (law.1 f))

    pub crowd_gets_36 : (t : ℕ) → NodeLineDue P text before (ended (plain_line crowd_key (suc t ∷ []))) A d → t < P.periods
        → (answer texts text ≡ answered_refused 36 (2 + length before) 0 0) ↔ (Crowded P A t → ⊥)
    crowd_gets_36 t u h =
        let here = node_refused (ended (plain_line crowd_key (suc t ∷ []))) u 36 in
        let law = crowd_refused_is P A d t h in
        (λ e. law.0 (here.0 e), λ f. here.1 (law.1 f))
