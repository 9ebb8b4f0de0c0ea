-- Document 02, [1]: what 37 is for. Where a count is above the upper count that stands for its period, or below the lower, a schedule can agree with two
-- leaves.
use mathlib.Core.Path.{◌≡◌, refl, sym, ◌∙◌, subst}
use mathlib.Core.Bool.{Bool, true, false, cond}
use mathlib.Core.Logic.{inl, inr}
use mathlib.Core.Option.{none, some}
use mathlib.Core.List.{[], ◌∷◌}
use Prim.Native.Nat.{ℕ, ◌-◌, ◌≤◌, ◌<◌}
use native.Mathlib.Omega.{arith}
use lib.Dec.{T, eqb, eqb→eq, lit<, lit≤}
use lib.ListN.{length}
use Rattle.model.specs.Instance.{Schedule}
use Rattle.model.specs.Above.{root, AtMost, count, side}
use Rattle.model.specs.Tree.{short, Tree, leaf, fork, Narrows, Limits}
use Rattle.model.specs.Agreement.{running, Agrees, LeafOf, above, OneLeaf}
use Rattle.model.specs.Examples.{example}

-- in the example problem one unit runs in period 2
abbrev one_runs : Schedule
one_runs = (60 ∷ 80 ∷ []) ∷ (0 ∷ 0 ∷ []) ∷ []

runs_then : (t : ℕ) → T (eqb 1 t) → running one_runs t ≡ 1
runs_then t h = subst (λ (x : ℕ). running one_runs x ≡ 1) (eqb→eq 1 t h) refl

abbrev any_leaf : Tree
any_leaf = leaf (short 0)

-- ---- above the upper count: `count=2,1` in the first tree of `count=2,0`

abbrev above_upper : Tree
above_upper = fork (count 1 0) (fork (count 1 1) any_leaf any_leaf) any_leaf

-- at most one unit runs: under the first tree of both
upper_inner : Agrees (above root above_upper (inl (inl tt))) one_runs
upper_inner = record { follows = λ u t. tt; enough = λ t. omega arith; few = λ t. go t (eqb 1 t) (runs_then t) }
  where
    go : (t : ℕ) (c : Bool) → (T c → running one_runs t ≡ 1) → AtMost (running one_runs t) (cond c (some 1) (cond c (some 0) none))
    go t true k = omega (arith, k tt)
    go t false k = tt

-- at least one runs: under the second of the outer
upper_outer : Agrees (above root above_upper (inr tt)) one_runs
upper_outer = record { follows = λ u t. tt; enough = λ t. go t (eqb 1 t) (runs_then t); few = λ t. tt }
  where
    go : (t : ℕ) (c : Bool) → (T c → running one_runs t ≡ 1) → cond c 1 0 ≤ running one_runs t
    go t true k = omega (arith, k tt)
    go t false k = omega arith

-- two leaves, which differ in being the outer's second
upper_two : OneLeaf root above_upper one_runs → ⊥
upper_two o = subst second (o.only (inr tt) upper_outer ∙ sym (o.only (inl (inl tt)) upper_inner)) tt
  where
    second : LeafOf above_upper → Type 0
    second (inl i) = ⊥
    second (inr i) = Unit {0}

-- only 37 is against it: the inner count is in range, but not below the upper count
upper_refused : (1 < example.periods) × (1 ≤ length example.units - 1) × (Narrows (side (count 1 0) false root) 1 1 → ⊥) × (Limits example root 0 above_upper → ⊥)
unfolding Limits
upper_refused = (lit< tt, lit≤ tt, (λ g. omega (arith, g.1)), (λ h. omega (arith, h.2.0.2.1)))

-- ---- below the lower count: `count=2,0` in the second tree of `count=2,1`

abbrev below_lower : Tree
below_lower = fork (count 1 1) any_leaf (fork (count 1 0) any_leaf any_leaf)

-- at most one unit runs: under the first tree of the outer
lower_outer : Agrees (above root below_lower (inl tt)) one_runs
lower_outer = record { follows = λ u t. tt; enough = λ t. omega arith; few = λ t. go t (eqb 1 t) (runs_then t) }
  where
    go : (t : ℕ) (c : Bool) → (T c → running one_runs t ≡ 1) → AtMost (running one_runs t) (cond c (some 1) none)
    go t true k = omega (arith, k tt)
    go t false k = tt

-- at least one runs: under the second of both
lower_inner : Agrees (above root below_lower (inr (inr tt))) one_runs
lower_inner = record { follows = λ u t. tt; enough = λ t. go t (eqb 1 t) (runs_then t); few = λ t. tt }
  where
    go : (t : ℕ) (c : Bool) → (T c → running one_runs t ≡ 1) → cond c 1 (cond c 2 0) ≤ running one_runs t
    go t true k = omega (arith, k tt)
    go t false k = omega arith

-- two leaves, which differ in being the outer's first
lower_two : OneLeaf root below_lower one_runs → ⊥
lower_two o = subst first (o.only (inl tt) lower_outer ∙ sym (o.only (inr (inr tt)) lower_inner)) tt
  where
    first : LeafOf below_lower → Type 0
    first (inl i) = Unit {0}
    first (inr i) = ⊥

-- the inner count is in range, but below the lower count
lower_refused : (1 < example.periods) × (0 ≤ length example.units - 1) × (Narrows (side (count 1 1) true root) 1 0 → ⊥) × (Limits example root 0 below_lower → ⊥)
unfolding Limits
lower_refused = (lit< tt, lit≤ tt, (λ g. omega (arith, g.0)), (λ h. omega (arith, h.3.0.2.0)))
