-- Document 02, [6], after a list of texts: what refuses a later line of a leaf, and 35.
use mathlib.Core.Path.{◌≡◌, refl, sym, subst}
use mathlib.Core.List.{List}
use mathlib.Core.Logic.{◌↔◌}
use mathlib.Core.Option.{Option, none, some}
use Prim.Native.Nat.{ℕ, ◌+◌}
use native.Mathlib.Omega.{arith}
use lib.Dec.{T}
use lib.ListN.{length}
use Rattle.model.specs.Instance.{Instance}
use Rattle.model.specs.Ranges.{WellFormed}
use Rattle.model.specs.Above.{Above}
use Rattle.model.specs.Leaf.{any_stuck}
use Rattle.model.specs.Tree.{Leaf}
use Rattle.refusal.specs.Refusals.{line_refusal}
use Rattle.text.specs.Lines.{Line}
use Rattle.tree.specs.Places.{Part}
use Rattle.tree.specs.Refusals.{Ends, PartBreaks, RefusedAt}
use Rattle.tree.proofs.PartRefusals.{part_refused_is, stuck_at_last}
use Rattle.answer.specs.StatedAnswers.{refused as answered_refused}
use Rattle.docket.specs.Verdicts.{Verdict}
use Rattle.docket.specs.Texts.{refused_line, Is, Are, tree_refused}
use Rattle.docket.specs.Promised.{answer, given}
use Rattle.docket.specs.Requested.{PartLineDue}
use Rattle.docket.proofs.OneVerdict.{Fine}
use Rattle.docket.proofs.EachText as each
use Rattle.docket.proofs.CountLines.{refused_in_tree}

module _ (texts : List (List ℕ)) (vs : List Verdict) (are : Are none texts vs) (P : Instance) (known : given vs ≡ some P) (text : List ℕ) (before : List Line) (x : Line) (A : Above)
    (p : Part) (u : PartLineDue P text before x A p) where
  formed : WellFormed P
  formed = subst Fine known (each.fine texts vs are)

  -- exactly the numbers that refuse the line there
  pub part_refused : (n : ℕ) → (answer texts text ≡ answered_refused n (2 + length before) 0 0) ↔ PartBreaks P A x p n
  part_refused n = (
    λ e. there.0 (refused_in_tree P text n m _ (subst (λ (o : Option Instance). Is o text (refused_line n m)) known (as_refused.0 e)) refl u.begins (omega arith)),
    λ h. as_refused.1 (subst (λ (o : Option Instance). Is o text (refused_line n m)) (sym known) (tree_refused n m u.short u.begins (there.1 h))),
  )
    where
      m : ℕ
      m = 2 + length before

      there : RefusedAt P text n m ↔ PartBreaks P A x p n
      there = part_refused_is P formed.periods_in.0 text before u.rest x u.lines u.some_tree u.beginning A p u.nodes_before u.after_writer u.place n

      as_refused : (answer texts text ≡ answered_refused n m 0 0) ↔ Is (given vs) text (refused_line n m)
      as_refused = each.refused_as texts vs are text (line_refusal n m)

  -- 35 exactly where it ends a leaf, and a unit is stuck
  pub last_gets_35 : (answer texts text ≡ answered_refused 35 (2 + length before) 0 0) ↔ (((l : Leaf) × Ends P x p l) × T (any_stuck P.periods P.units A.marks))
  last_gets_35 =
      let here = part_refused 35 in
      let law = stuck_at_last P A x p in
      (λ e. law.0 (here.0 e), λ h. here.1 (law.1 h))
