-- A search over periods, and in each over units, ends at the first place or past the last: all before it has been passed.
use mathlib.Core.Path.{◌≡◌, refl, sym, ◌∙◌}
use mathlib.Core.Bool.{Bool, true, false}
use mathlib.Core.Option.{Option, none, some}
use mathlib.Core.List.{List, [], ◌∷◌}
use Prim.Native.Nat.{ℕ, zero, suc, ◌+◌, ◌<◌}
use native.Mathlib.Numerals.{add-one}
use native.Mathlib.Omega.{arith}
use lib.ListN.{length, get_or, take}
use lib.Seq.{get_or-take}
use Rattle.model.specs.declared.generator.Generator.{Generator}
use Rattle.model.specs.declared.arrays.Problem.{Problem}
use Rattle.model.specs.Instance.{Schedule}
use Rattle.model.specs.Held.{blank_generator}
use Rattle.model.specs.Breach.{first_unit, first_place}
use Rattle.judge.specs.Rows.{schedule_of, Fitting}
use Rattle.judge.proofs.Rows.{cut_long, cut_rows_at}
use Rattle.judge.proofs.Units.{unit, part, units_long}

-- ---- over the units of a period

module _ (q : Generator → List ℕ → Bool) (d : Generator) where
  pub unit_found : (gs : List Generator) (s : Schedule) (u : ℕ) → u < length gs → u < length s
      → ((j : ℕ) → j < u → q (get_or gs j d) (get_or s j []) ≡ false) → q (get_or gs u d) (get_or s u []) ≡ true → first_unit q gs s ≡ some (suc u)
  unit_found [] s u h k before here = absurd (omega arith)
  unit_found (g ∷ gs) [] u h k before here = absurd (omega arith)
  unit_found (g ∷ gs) (r ∷ s) zero h k before here = rw here refl
  unit_found (g ∷ gs) (r ∷ s) (suc u) h k before here =
      rw (before 0 (omega arith), unit_found gs s u (omega arith) (omega arith) (λ j m. before (suc j) (omega arith)) here) refl

  pub no_unit_found : (gs : List Generator) (s : Schedule) → ((j : ℕ) → j < length gs → q (get_or gs j d) (get_or s j []) ≡ false)
      → length s ≡ length gs → first_unit q gs s ≡ none
  no_unit_found [] s before e = refl
  no_unit_found (g ∷ gs) [] before e = refl
  no_unit_found (g ∷ gs) (r ∷ s) before e =
      rw (before 0 (omega arith), no_unit_found gs s (λ j m. before (suc j) (omega arith)) (omega arith)) refl

-- ---- over periods

pub place_found : (n : ℕ) (f : ℕ → Option ℕ) (t u : ℕ) → t < n → ((k : ℕ) → k < t → f k ≡ none) → f t ≡ some u
    → first_place n f ≡ some (record { unit = u; period = suc t })
place_found zero f t u h before here = absurd (omega arith)
place_found (suc n) f zero u h before here = rw here refl
place_found (suc n) f (suc t) u h before here =
    rw (before 0 (omega arith), place_found n (λ k. f (suc k)) t u (omega arith) (λ k m. before (suc k) (omega arith)) here) refl

pub no_place_found : (n : ℕ) (f : ℕ → Option ℕ) → ((k : ℕ) → k < n → f k ≡ none) → first_place n f ≡ none
no_place_found zero f before = refl
no_place_found (suc n) f before = rw (before 0 (omega arith), no_place_found n (λ k. f (suc k)) (λ k m. before (suc k) (omega arith))) refl

-- ---- both, for a problem and rows that fit it

module _ (q : ℕ → Generator → List ℕ → Bool) (p : Problem) (l : List ℕ) where
  -- no unit before u breaks the rule in period t
  abbrev pub Passed : ℕ → ℕ → Type 0
  Passed t u = (j : ℕ) → j < u → q t (unit p j) (part p l j) ≡ false

  -- no unit breaks it in a period before t
  abbrev pub Clear : ℕ → Type 0
  Clear t = (k : ℕ) → k < t → Passed k p.units

  abbrev pub first_in : ℕ → Option ℕ
  first_in t = first_unit (q t) (take p.units p.generators) (schedule_of p l)

  module _ (F : Fitting p l) (many : length p.generators ≡ 32) where
    -- unit and row j, in the lists of the definition
    same : (t j : ℕ) → j < p.units
        → q t (get_or (take p.units p.generators) j blank_generator) (get_or (schedule_of p l) j []) ≡ q t (unit p j) (part p l j)
    same t j h = rw (get_or-take p.units p.generators j blank_generator h, cut_rows_at p.units p.periods l j h) refl

    pub period_clear : (t : ℕ) → Passed t p.units → first_in t ≡ none
    period_clear t before =
        let e = units_long p l F many in
        no_unit_found (q t) blank_generator (take p.units p.generators) (schedule_of p l)
        (λ j m. let h : j < p.units = omega arith in same t j h ∙ before j h)
        (cut_long p.units p.periods l ∙ sym e)

    pub search_found : (t u : ℕ) → t < p.periods → u < p.units → Clear t → Passed t u → q t (unit p u) (part p l u) ≡ true
        → first_place p.periods first_in ≡ some (record { unit = u + 1; period = t + 1 })
    search_found t u h k clear passed here =
        let e = units_long p l F many in
        let f = unit_found (q t) blank_generator (take p.units p.generators) (schedule_of p l) u
        (omega arith) (omega (arith, cut_long p.units p.periods l))
        (λ j m. same t j (omega arith) ∙ passed j m) (same t u k ∙ here) in
        rw (add-one u, add-one t) (place_found p.periods first_in t (suc u) h (λ k m. period_clear k (clear k m)) f)

    pub search_ends : Clear p.periods → first_place p.periods first_in ≡ none
    search_ends clear = no_place_found p.periods first_in (λ k m. period_clear k (clear k m))
