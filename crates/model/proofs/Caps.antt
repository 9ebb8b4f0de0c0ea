-- The count of periods in a status matters only up to a cap, so that a table of states is finite: one period back keeps values
-- that do not differ beyond the cap.
use mathlib.Core.Path.{◌≡◌, refl, ap}
use mathlib.Core.Bool.{Bool, true, false, not}
use Prim.Native.Nat.{ℕ, zero, suc, ◌+◌, ◌≤◌, ◌<◌, min}
use native.Mathlib.Omega.{arith}
use lib.Dec.{T, leb, leb→le, nleb→lt}
use borrow.Author.Tests.{le-leb, lt-leb}
use Rattle.model.specs.declared.generator.Generator.{Generator}
use Rattle.model.specs.Above.{Mark}
use Rattle.model.specs.Walk.{Values, back, walk, cap, Settled}
use Rattle.model.proofs.WalkRuns.{later}

pub back_settled : (g : Generator) (m : Mark) (w : Bool → ℕ) (X : Values) → Settled g X → Settled g (back g m w X)
unfolding back
back_settled g m w X h true k k' l l' =
    rw (le-leb g.TU k l, le-leb g.TU k' l', h true (suc k) (suc k') (omega arith) (omega arith))
back_settled g m w X h false k k' l l' =
    rw (
      le-leb g.TD k (omega arith),
      le-leb g.TD k' (omega arith),
      lt-leb k (g.TD + g.Tcold) (omega arith),
      lt-leb k' (g.TD + g.Tcold) (omega arith),
      h false (suc k) (suc k') (omega arith) (omega arith),
    )

pub walk_settled : (n : ℕ) (g : Generator) (m : ℕ → Mark) (w : ℕ → Bool → ℕ) → Settled g (walk n g m w)
unfolding walk
walk_settled zero g m w = λ b k k' l l'. refl
walk_settled (suc n) g m w = back_settled g (m 0) (w 0) (walk n g (later m) (later w)) (walk_settled n g (later m) (later w))

-- a state may be capped
pub settled_cap : (g : Generator) (X : Values) → Settled g X → (b : Bool) (k : ℕ) → X b (min k (cap g b)) ≡ X b k
settled_cap g X h b k = go (leb k (cap g b)) (λ t. leb→le k (cap g b) t) (λ t. nleb→lt k (cap g b) t)
  where
    go : (c : Bool) → (T c → k ≤ cap g b) → (T (not c) → cap g b < k) → X b (min k (cap g b)) ≡ X b k
    go true f i =
        let l : k ≤ cap g b = f tt in
        let e : min k (cap g b) ≡ k = omega arith in
        ap (X b) e
    go false f i = let l : cap g b < k = i tt in h b (min k (cap g b)) k (omega arith) (omega arith)

pub walk_cap : (n : ℕ) (g : Generator) (m : ℕ → Mark) (w : ℕ → Bool → ℕ) (b : Bool) (k : ℕ)
    → walk n g m w b (min k (cap g b)) ≡ walk n g m w b k
walk_cap n g m w b k = settled_cap g (walk n g m w) (walk_settled n g m w) b k
