-- A run of entries written one after the other; and the three runs that a status's states fall into, one period back.
use mathlib.Core.Path.{◌≡◌, refl, ◌∙◌, ap}
use mathlib.Core.Bool.{Bool, true, false, not, cond}
use mathlib.Core.List.{List}
use Prim.Native.Nat.{ℕ, ◌+◌, ◌-◌, ◌≤◌, ◌<◌, min}
use native.Mathlib.Omega.{arith}
use borrow.Author.Count.{below_more}
use borrow.Author.Tests.{eq-eqb, ne_eqb}
use lib.Dec.{T, leb, leb→le, nleb→lt}
use lib.ListN.{length, get_or, set, length-set}
use lib.Seq.{get_or-set_same, get_or-set_other}
use Rattle.model.specs.Walk.{lesser}
use Rattle.model.specs.Table.{kept, chain_at, Chained}
use Rattle.walk.specs.GoingBack.{Rewritten, Backed}

-- ---- a run that is written

pub written_none : (l : List ℕ) (from : ℕ) (f : ℕ → ℕ) → Rewritten l l from from f
written_none l from f = record { same = refl; inside = λ k i j. absurd (omega arith); below = λ k i. refl; above = λ k i. refl }

pub written_more : (old new : List ℕ) (from i x : ℕ) (f : ℕ → ℕ) → from ≤ i → i < length old → Rewritten old new from i f → x ≡ f i
    → Rewritten old (set new i x) from (i + 1) f
written_more old new from i x f h l W e =
    let there : i < length new = omega (arith, W.same) in
    record {
      same = length-set new i x ∙ W.same;
      inside = λ k j m. below_more (λ k. from ≤ k → get_or (set new i x) k 0 ≡ f k) i
          (λ k n j. get_or-set_other new i k x 0 (omega arith) ∙ W.inside k j n) (λ j. get_or-set_same new i x 0 there ∙ e) k m j;
      below = λ k j. get_or-set_other new i k x 0 (omega arith) ∙ W.below k j;
      above = λ k j. get_or-set_other new i k x 0 (omega arith) ∙ W.above k (omega arith);
    }

pub written_ext : (old new : List ℕ) (from to : ℕ) (f g : ℕ → ℕ) → ((k : ℕ) → f k ≡ g k) → Rewritten old new from to f → Rewritten old new from to g
written_ext old new from to f g h W = record { same = W.same; inside = λ k i j. W.inside k i j ∙ h k; below = W.below; above = W.above }

-- ---- the three runs of a status

-- one after the other: the states that cannot be left, those left early, and the last
pub backed_is : (old mid new : List ℕ) (from end early last : ℕ) (allowed : Bool) (v x : ℕ) → from ≤ end → length old ≡ end + 1
    → Rewritten old mid 0 from (λ k. kept allowed v (get_or old (k + 1) 0))
    → Rewritten mid new from end (λ k. lesser early (kept allowed v (get_or mid (k + 1) 0)))
    → x ≡ lesser last (kept allowed v (get_or old end 0))
    → Backed old (set new end x) from early last allowed v
backed_is old mid new from end early last allowed v x h e A B g =
    let there : end < length new = omega (arith, A.same, B.same) in
    record {
      same = length-set new end x ∙ B.same ∙ A.same;
      low = λ k i. get_or-set_other new end k x 0 (omega arith) ∙ B.below k i ∙ A.inside k (omega arith) i;
      high = λ k i j. get_or-set_other new end k x 0 (omega arith) ∙ B.inside k i (omega arith)
          ∙ ap (λ (y : ℕ). lesser early (kept allowed v y)) (A.above (k + 1) (omega arith));
      end = λ k i. let e' : k ≡ end = omega arith in rw e' (get_or-set_same new end x 0 there ∙ g);
    }

-- they are the states one period back
pub backed_chained : (old new : List ℕ) (need from early last : ℕ) (allowed : Bool) (v : ℕ) → 0 < length old
    → from ≡ min (need - 1) (length old - 1) → Backed old new from early last allowed v → Chained old new need early last allowed v
unfolding lesser
backed_chained old new need from early last allowed v pos e B = record { same = B.same; at = entry }
  where
    within : (k : ℕ) → k + 1 < length old → (c : Bool) → (T c → need ≤ k + 1) → (T (not c) → k + 1 < need)
        → get_or new k 0 ≡ lesser (cond c early 0) (kept allowed v (get_or old (k + 1) 0))
    within k i true f g = B.high k (omega (arith, f tt)) i
    within k i false f g = B.low k (omega (arith, g tt))

    entry : (k : ℕ) → k < length old → get_or new k 0 ≡ chain_at old need early last allowed v k
    entry k l = go (leb (length old) (k + 1)) (λ t. leb→le (length old) (k + 1) t) (λ t. nleb→lt (length old) (k + 1) t)
      where
        go : (c : Bool) → (T c → length old ≤ k + 1) → (T (not c) → k + 1 < length old)
            → get_or new k 0 ≡ chain_at old need early last allowed v k
        go true f g =
            let i : k + 1 ≡ length old = omega (arith, f tt) in
            let j : min (k + 1) (length old - 1) ≡ k = omega arith in
            rw (eq-eqb (k + 1) (length old) i, j) (B.end k i)
        go false f g =
            let i : k + 1 < length old = g tt in
            let j : min (k + 1) (length old - 1) ≡ k + 1 = omega arith in
            rw (ne_eqb (k + 1) (length old) (λ e. omega arith), j)
            (within k i (leb need (k + 1)) (λ t. leb→le need (k + 1) t) (λ t. nleb→lt need (k + 1) t))
