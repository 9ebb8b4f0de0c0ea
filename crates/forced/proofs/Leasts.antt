-- Laws of the least of a function's first values: one value more, values that are not there, and how large it can be.
use mathlib.Core.Path.{◌≡◌, refl, sym, ◌∙◌, ap}
use mathlib.Core.List.{List}
use mathlib.Core.Logic.{◌⊎◌, inl, inr}
use Prim.Native.Nat.{ℕ, zero, suc, ◌+◌, ◌-◌, ◌≤◌, ◌<◌, min}
use native.Mathlib.Nat.{eq-or-lt_of_le}
use native.Mathlib.Omega.{arith}
use Rattle.model.specs.Instance.{◌at◌}
use Rattle.model.specs.Walk.{lesser}
use Rattle.model.specs.ForcedWalk.{least_upto}
use Rattle.model.proofs.Coded.{lesser_none, lesser_most}
use Rattle.forced.specs.Forward.{Beyond}

-- one value more, of a list from a place on
pub upto_more : (from i : ℕ) (l : List ℕ) → from ≤ i
    → least_upto (i + 1 - from) (λ j. l at (from + j)) ≡ lesser (least_upto (i - from) (λ j. l at (from + j))) (l at i)
unfolding least_upto
upto_more from i l h =
    let e : i + 1 - from ≡ suc (i - from) = omega arith in
    let there : from + (i - from) ≡ i = omega arith in
    ap (λ (n : ℕ). least_upto n (λ j. l at (from + j))) e
    ∙ ap (λ (k : ℕ). lesser (least_upto (i - from) (λ j. l at (from + j))) (l at k)) there

-- values that are not there make no difference
pub upto_beyond : (n r : ℕ) (f : ℕ → ℕ) → r ≤ n → ((k : ℕ) → r ≤ k → k < n → f k ≡ 0) → least_upto n f ≡ least_upto r f
unfolding least_upto
upto_beyond zero r f h none =
    let e : r ≡ 0 = omega arith in
    rw e refl
upto_beyond (suc n) r f h none = go (λ i. upto_beyond n r f i (λ k a b. none k a (omega arith))) (eq-or-lt_of_le h)
  where
    go : (r ≤ n → least_upto n f ≡ least_upto r f) → (r ≡ suc n) ⊎ (r < suc n) → least_upto (suc n) f ≡ least_upto r f
    go ih (inl e) = rw e refl
    go ih (inr i) = ap (lesser (least_upto n f)) (none n (omega arith) (omega arith)) ∙ lesser_none (least_upto n f) ∙ ih (omega arith)

-- it is no more than all of them are
pub upto_most : (n : ℕ) (f : ℕ → ℕ) (M : ℕ) → ((k : ℕ) → f k ≤ M) → least_upto n f ≤ M
unfolding least_upto
upto_most zero f M h = omega arith
upto_most (suc n) f M h = lesser_most (least_upto n f) (f n) M (upto_most n f M h) (h n)

-- of a list with nothing from the place t on, the values from one place to another are those before t
pub least_beyond : (from to n t : ℕ) (l : List ℕ) → to ≡ from + n → Beyond t l
    → least_upto (min t to - from) (λ i. l at (from + i)) ≡ least_upto n (λ i. l at (from + i))
least_beyond from to n t l e b =
    sym (upto_beyond n (min t to - from) (λ i. l at (from + i)) (omega arith) (λ k i j. b (from + k) (omega arith)))
