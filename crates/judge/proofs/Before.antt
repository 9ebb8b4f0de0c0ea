-- Up and down times by looking back: counting from a period backwards, as far as the status stays, finds the periods that counting
-- forward from Tini finds. The output before a period.
use mathlib.Core.Path.{◌≡◌, refl, sym, ap, ◌∙◌}
use mathlib.Core.Bool.{Bool, true, false, not, not-not}
use mathlib.Core.List.{List, [], ◌∷◌}
use Prim.Native.Nat.{ℕ, zero, suc, ◌+◌, ◌-◌, ◌≤◌, ◌<◌}
use native.Mathlib.Omega.{arith}
use lib.Dec.{leb}
use lib.ListN.{length}
use Rattle.model.specs.declared.generator.Generator.{Generator}
use Rattle.model.specs.Instance.{◌at◌}
use Rattle.model.specs.Rules.{on, statuses, permits, spent}
use Rattle.model.specs.Breach.{not_permitted}
use Rattle.judge.specs.Before.{status_before, spent_before, output_before}
use Rattle.judge.proofs.Switch.{spent_same, spent_other, permits_same, permits_off, permits_on}

-- ---- one period on

pub status_next : (b : Bool) (r : List ℕ) (t : ℕ) → t < length r → status_before b (statuses r) (suc t) ≡ on (r at t)
status_next b [] t h = absurd (omega arith)
status_next b (p ∷ r) zero h = refl
status_next b (p ∷ r) (suc t) h = status_next (on p) r t (omega arith)

pub spent_next : (b : Bool) (k : ℕ) (r : List ℕ) (t : ℕ) → t < length r
    → spent_before b k (statuses r) (suc t) ≡ spent (status_before b (statuses r) t) (spent_before b k (statuses r) t) (on (r at t))
spent_next b k [] t h = absurd (omega arith)
spent_next b k (p ∷ r) zero h = refl
spent_next b k (p ∷ r) (suc t) h = spent_next (on p) (spent b k (on p)) r t (omega arith)

-- ---- a status is permitted or not by what stands before it

pub permitted_by : (g : Generator) (b : Bool) (k : ℕ) (r : List ℕ) (t : ℕ) → t < length r
    → not (not_permitted g b k (statuses r) t) ≡ permits g (status_before b (statuses r) t) (spent_before b k (statuses r) t) (on (r at t))
permitted_by g b k [] t h = absurd (omega arith)
permitted_by g b k (p ∷ r) zero h = not-not (permits g b k (on p))
permitted_by g b k (p ∷ r) (suc t) h = permitted_by g (on p) (spent b k (on p)) r t (omega arith)

module _ (g : Generator) (b : Bool) (n : ℕ) (r : List ℕ) (t : ℕ) (inside : t < length r) (was is : Bool)
    (was_is : was ≡ status_before b (statuses r) t) (is_is : is ≡ on (r at t)) where
  -- a status that stays is permitted; one that changes, by the periods spent in the old one
  pub permitted_same : was ≡ is → not (not_permitted g b n (statuses r) t) ≡ true
  permitted_same e = permitted_by g b n r t inside ∙ permits_same g _ _ _ (sym was_is ∙ e ∙ is_is)

  module _ (k : ℕ) (k_is : k ≡ spent_before b n (statuses r) t) (changes : was ≡ is → ⊥) where
    pub permitted_off : was ≡ true → not (not_permitted g b n (statuses r) t) ≡ leb g.TU k
    permitted_off w =
        permitted_by g b n r t inside ∙ permits_off g _ _ _ (λ e. changes (was_is ∙ e ∙ sym is_is)) (sym was_is ∙ w) ∙ ap (leb g.TU) (sym k_is)

    pub permitted_on : was ≡ false → not (not_permitted g b n (statuses r) t) ≡ leb g.TD k
    permitted_on w =
        permitted_by g b n r t inside ∙ permits_on g _ _ _ (λ e. changes (was_is ∙ e ∙ sym is_is)) (sym was_is ∙ w) ∙ ap (leb g.TD) (sym k_is)

-- ---- looking back

module _ (b : Bool) (n : ℕ) (r : List ℕ) where
  abbrev pub status_at : ℕ → Bool
  status_at t = status_before b (statuses r) t

  abbrev pub spent_at : ℕ → ℕ
  spent_at t = spent_before b n (statuses r) t

  -- the periods from k to t have one status: if the one before k has it too, what was spent there counts, else not
  pub record Back (d : Bool) (t k : ℕ) : Type 0 where
    pub joins : status_at k ≡ d → spent_at t ≡ spent_at k + (t - k)
    pub starts : (status_at k ≡ d → ⊥) → spent_at t ≡ t - k

  module _ (d : Bool) (t : ℕ) where
    -- one period further back
    one_back : (k : ℕ) → suc k ≤ t → k < length r → Back d t (suc k) → on (r at k) ≡ d → Back d t k
    one_back k h l w e =
        let s : status_at (suc k) ≡ d = status_next b r k l ∙ e in
        let f : spent_at t ≡ spent (status_at k) (spent_at k) d + (t - suc k) =
        w.joins s ∙ ap (λ (m : ℕ). m + (t - suc k)) (spent_next b n r k l ∙ ap (λ (x : Bool). spent (status_at k) (spent_at k) x) e) in
        record {
          joins = λ j. omega (arith, f, spent_same (status_at k) d (spent_at k) j);
          starts = λ j. omega (arith, f, spent_other (status_at k) d (spent_at k) j);
        }

    pub back_more : (k : ℕ) → 0 < k → k ≤ t → k ≤ length r → Back d t k → on (r at (k - 1)) ≡ d → Back d t (k - 1)
    back_more zero h j l w e = absurd (omega arith)
    back_more (suc k) h j l w e =
        let i : suc k - 1 ≡ k = omega arith in
        let e' : on (r at k) ≡ d = rw i at e in
        rw i (one_back k j (omega arith) w e')

    pub back_stops : (k : ℕ) → 0 < k → k ≤ length r → Back d t k → (on (r at (k - 1)) ≡ d → ⊥) → spent_at t ≡ t - k
    back_stops zero h l w e = absurd (omega arith)
    back_stops (suc k) h l w e =
        let i : suc k - 1 ≡ k = omega arith in
        let e' : on (r at k) ≡ d → ⊥ = rw i at e in
        w.starts (λ s. e' (sym (status_next b r k (omega arith)) ∙ s))

-- the status before a period is that of the period before, or, before period 1, the one that Tini gives
pub status_later : (b : Bool) (r : List ℕ) (t : ℕ) → (t ≡ 0 → ⊥) → t ≤ length r → status_before b (statuses r) t ≡ on (r at (t - 1))
status_later b r zero h l = absurd (h refl)
status_later b r (suc t) h l = let i : suc t - 1 ≡ t = omega arith in rw i (status_next b r t (omega arith))

-- ---- the output before a period, m being that at midnight

module _ (m : ℕ) (r : List ℕ) where
  pub output_later : (t : ℕ) → (t ≡ 0 → ⊥) → output_before m r t ≡ r at (t - 1)
  output_later zero h = absurd (h refl)
  output_later (suc t) h = let i : suc t - 1 ≡ t = omega arith in rw i refl
