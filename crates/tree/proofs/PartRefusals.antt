-- Which number refuses a later line of a leaf, whatever stands after it; and 35, which comes at the line that ends the leaf and at no other.
use mathlib.Core.Path.{◌≡◌, refl, sym, transport}
use mathlib.Core.Bool.{Bool, true, false, not}
use mathlib.Core.List.{List, ◌∷◌, ◌++◌}
use mathlib.Core.Logic.{◌↔◌}
use Prim.Native.Nat.{ℕ, suc, ◌+◌, ◌≤◌}
use native.Mathlib.Omega.{arith}
use lib.Dec.{T}
use lib.ListN.{length}
use Rattle.model.specs.Instance.{Instance}
use Rattle.model.specs.Above.{Above, root}
use Rattle.model.specs.Leaf.{any_stuck}
use Rattle.model.specs.Tree.{Leaf, LeafHolds}
use Rattle.text.specs.Lines.{Line, later, lines_of, end_tree}
use Rattle.text.specs.LineRefused.{Beginning, at_numbers}
use Rattle.text.proofs.WhichLine as which
use Rattle.tree.specs.Places.{Part, part_at, LineAt}
use Rattle.tree.specs.Refusals.{WrittenTree, written_lines, Ends, price_ends, ramp_ends, steps_end, PartBreaks, unfit_part, some_stuck, Breaks, at_part, HoldsSoFar, RefusedAt}
use Rattle.tree.specs.Course.{tests, next_due, end}
use Rattle.tree.proofs.NodeRefusals.{unfit_most}
use Rattle.tree.proofs.WhichLine.{part_breaks, all_follow}

-- ---- any later line of a leaf, where the lines before it begin the text of a tree

module _ (P : Instance) (some : 1 ≤ P.periods) (text : List ℕ) (before rest : List Line) (x : Line) (lines : later (lines_of text) ≡ before ++ (x ∷ rest))
    (v : WrittenTree) (b : Beginning written_lines (HoldsSoFar P) before v) (A : Above) (p : Part) (i : ℕ) (k : length before ≡ suc i) (place : LineAt root 0 v.tree i (part_at A p)) where
  pub part_refused_is : (n : ℕ) → RefusedAt P text n (2 + length before) ↔ PartBreaks P A x p n
  part_refused_is n =
      let law = which.refused_there (tests P) (next_due P) end written_lines end_tree (HoldsSoFar P) (Breaks P) (all_follow P some) n (2 + length before) (later (lines_of text)) v before
      (x ∷ rest) lines b refl in
      (λ r. part_breaks P some v (length before) (x ∷ rest) i A p k place n (law.0 r), λ h. law.1 (at_numbers (at_part k place h)))

-- ---- 35

module _ (P : Instance) (A : Above) (x : Line) where
  abbrev stuck : Bool
  stuck = any_stuck P.periods P.units A.marks

  -- the leaf that the line ends holds exactly where no unit is stuck
  ended_holds : (p : Part) (l : Leaf) → Ends P x p l → LeafHolds P A l ≡ T (not (any_stuck P.periods P.units A.marks))
  unfolding LeafHolds
  ended_holds p l (price_ends q s m e) = refl
  ended_holds p l (ramp_ends q s n m e) = refl
  ended_holds p l (steps_end q s k u d n m e) = refl

  -- exactly where the line ends a leaf, and a unit is stuck
  pub stuck_at_last : (p : Part) → PartBreaks P A x p 35 ↔ (((l : Leaf) × Ends P x p l) × T (any_stuck P.periods P.units A.marks))
  stuck_at_last p = (λ b. forth p 35 b refl, λ h. some_stuck h.0.0 h.0.1 (λ k. contrary stuck h.1 (transport (ended_holds p h.0.0 h.0.1) k)))
    where
      contrary : (b : Bool) → T b → T (not b) → ⊥
      contrary true h k = k
      contrary false h k = h

      otherwise : (b : Bool) → (T (not b) → ⊥) → T b
      otherwise true f = tt
      otherwise false f = absurd (f tt)

      forth : (p : Part) (n : ℕ) → PartBreaks P A x p n → n ≡ 35 → ((l : Leaf) × Ends P x p l) × T (any_stuck P.periods P.units A.marks)
      forth p n (unfit_part u) e = absurd (omega (arith, e, unfit_most u))
      forth p n (some_stuck l en f) e = ((l, en), otherwise stuck (λ k. f (transport (sym (ended_holds p l en)) k)))
