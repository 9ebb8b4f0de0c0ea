-- A run forward over a kept table: each status by the values kept of the period after it, and the row that is written so far with the row of the run that is left.
use mathlib.Core.Path.{◌≡◌, refl, sym, ap, ap₂, ◌∙◌}
use mathlib.Core.Bool.{Bool, true, false, not}
use mathlib.Core.List.{List, [], ◌∷◌, ◌++◌, append_assoc, append-nil}
use Prim.Native.Nat.{ℕ, zero, suc, ◌+◌, ◌-◌, ◌≤◌, ◌<◌}
use native.Mathlib.Nat.{add-zero}
use native.Mathlib.Numerals.{add-one}
use native.Mathlib.Omega.{arith}
use lib.Dec.{leb}
use lib.ListN.{length, take, set}
use lib.Seq.{take-suc-set, take_all}
use Rattle.model.specs.declared.generator.Generator.{Generator}
use Rattle.model.specs.Instance.{◌at◌}
use Rattle.model.specs.Ranges.{GoodUnit}
use Rattle.model.specs.Rules.{if_on, spent}
use Rattle.model.specs.Above.{Mark}
use Rattle.model.specs.Walk.{move, walk}
use Rattle.model.specs.Table.{values}
use Rattle.model.specs.Prices.{best_output}
use Rattle.model.specs.RunWalk.{no_worse, branch, next_status, first_run, row_of}
use Rattle.model.proofs.WalkPeriods.{from, from_later}
use Rattle.walk.specs.Marks.{marks_of}
use Rattle.walk.specs.GoingBack.{costs_of}
use Rattle.runs.specs.Kept.{Kept, kept_in, status_by}
use Rattle.runs.proofs.Tables.{kept_walk}

-- ---- two coded values

pub no_worse_alone : (x : ℕ) → (x ≡ 0 → ⊥) → no_worse x 0 ≡ true
unfolding no_worse
no_worse_alone zero h = absurd (h refl)
no_worse_alone (suc x) h = refl

pub no_worse_both : (x y : ℕ) → (x ≡ 0 → ⊥) → (y ≡ 0 → ⊥) → no_worse x y ≡ leb x y
unfolding no_worse
no_worse_both zero y h i = absurd (h refl)
no_worse_both (suc x) zero h i = absurd (i refl)
no_worse_both (suc x) (suc y) h i = refl

-- ---- one status

-- a status lasts for a period at least, and for one more than the last at most
pub spent_least : (b : Bool) (k : ℕ) (d : Bool) → 1 ≤ spent b k d
spent_least true k true = omega arith
spent_least true k false = omega arith
spent_least false k true = omega arith
spent_least false k false = omega arith

pub spent_most : (b : Bool) (k : ℕ) (d : Bool) → spent b k d ≤ k + 1
spent_most true k true = omega arith
spent_most true k false = omega arith
spent_most false k true = omega arith
spent_most false k false = omega arith

-- ---- the periods from t on

module _ (n : ℕ) (g : Generator) (m : ℕ → Mark) (w : ℕ → Bool → ℕ) where
  branch_from : (t : ℕ) (b : Bool) (k : ℕ) (d : Bool)
      → branch n g (from t m) (from t w) b k d ≡ move g (m t) (w t d) b k d (walk n g (from (suc t) m) (from (suc t) w) d (spent b k d))
  branch_from t b k d = rw (from_later t m, from_later t w, add-zero t) refl

  run_from : (t : ℕ) (b : Bool) (k : ℕ)
      → first_run (suc n) g (from t m) (from t w) b k
      ≡ next_status n g (from t m) (from t w) b k ∷ first_run n g (from (suc t) m) (from (suc t) w) (next_status n g (from t m) (from t w) b k) (spent b k (next_status n g (from t m) (from t w) b k))
  unfolding first_run
  run_from t b k =
      let d = next_status n g (from t m) (from t w) b k in
      ap₂ (λ (x : ℕ → Mark) (y : ℕ → Bool → ℕ). d ∷ first_run n g x y d (spent b k d)) (from_later t m) (from_later t w)

-- ---- the status by the table

module _ (n : ℕ) (g : Generator) (G : GoodUnit g) (fixed on off table : List ℕ) (K : Kept n g (marks_of fixed) (costs_of on off) table) where
  abbrev m : ℕ → Mark
  m = marks_of fixed

  abbrev w : ℕ → Bool → ℕ
  w = costs_of on off

  module _ (t : ℕ) (l : t < n) (b : Bool) (k : ℕ) where
    branch_kept : (d : Bool) → move g (m t) (w t d) b k d (kept_in g table (suc t) d (spent b k d)) ≡ branch (n - suc t) g (from t m) (from t w) b k d
    unfolding values
    branch_kept d =
        let e = kept_walk n g m w table K G (suc t) (omega arith) d (spent b k d) (spent_least b k d) in
        ap (move g (m t) (w t d) b k d) e ∙ sym (branch_from (n - suc t) g m w t b k d)

    -- it is the run's
    status_is : status_by g (fixed at t) (on at t) (off at t) table (suc t) b k ≡ next_status (n - suc t) g (from t m) (from t w) b k
    status_is = ap₂ (λ (x y : ℕ). not (no_worse x y)) (branch_kept false) (branch_kept true)

-- ---- the row of the run that is left

module _ (n : ℕ) (g : Generator) (m : ℕ → Mark) (w : ℕ → Bool → ℕ) (o : ℕ → ℕ) where
  abbrev row_left : ℕ → Bool → ℕ → List ℕ
  row_left t b k = row_of (from t o) (first_run (n - t) g (from t m) (from t w) b k)

  -- after the last there is none
  left_end : (t : ℕ) → n ≤ t → (b : Bool) (k : ℕ) → row_left t b k ≡ []
  unfolding first_run
  left_end t l b k = let e : n - t ≡ 0 = omega arith in rw e refl

  left_next : (t : ℕ) → t < n → (b : Bool) (k : ℕ) (d : Bool) → d ≡ next_status (n - suc t) g (from t m) (from t w) b k
      → row_left t b k ≡ if_on d (o t) ∷ row_left (suc t) d (spent b k d)
  left_next t l b k d s =
      let e : n - t ≡ suc (n - suc t) = omega arith in
      let run = ap (λ (i : ℕ). first_run i g (from t m) (from t w) b k) e ∙ run_from (n - suc t) g m w t b k in
      ap (row_of (from t o)) (run ∙ ap (λ (x : Bool). x ∷ first_run (n - suc t) g (from (suc t) m) (from (suc t) w) x (spent b k x)) (sym s))
      ∙ ap₂ (λ (i : ℕ) (f : ℕ → ℕ). if_on d (o i) ∷ row_of f (first_run (n - suc t) g (from (suc t) m) (from (suc t) w) d (spent b k d))) (add-zero t) (from_later t o)

-- ---- the row that is written

module _ (g : Generator) (q on off fixed : List ℕ) where
  abbrev best : ℕ → ℕ
  best i = best_output g (q at i)

  -- the row of the run from the state before period 1
  abbrev pub whole_row : List ℕ
  whole_row = row_of best (first_run (length q) g (marks_of fixed) (costs_of on off) g.on g.since)

  -- it is the first t outputs, and behind them the row of the run that is left after k periods in b
  abbrev pub Written : List ℕ → ℕ → Bool → ℕ → Type 0
  Written row t b k = take t row ++ row_left (length q) g (marks_of fixed) (costs_of on off) best t b k ≡ whole_row

  pub written_more : GoodUnit g → (table : List ℕ) → Kept (length q) g (marks_of fixed) (costs_of on off) table
      → (row : List ℕ) (t : ℕ) (b : Bool) (k : ℕ) → t < length q → length row ≡ length q → Written row t b k
      → (d : Bool) → d ≡ status_by g (fixed at t) (on at t) (off at t) table (t + 1) b k
      → Written (set row t (if_on d (best_output g (q at t)))) (t + 1) d (spent b k d)
  written_more G table K row t b k l e h d s =
      let next = s ∙ ap (λ (i : ℕ). status_by g (fixed at t) (on at t) (off at t) table i b k) (add-one t) ∙ status_is (length q) g G fixed on off table K t l b k in
      let left = left_next (length q) g (marks_of fixed) (costs_of on off) best t l b k d next in
      rw (add-one t, take-suc-set row t (if_on d (best t)) (omega arith), append_assoc) (ap (λ (x : List ℕ). take t row ++ x) (sym left) ∙ h)

  pub written_all : (row : List ℕ) (t : ℕ) (b : Bool) (k : ℕ) → length q ≤ t → length row ≡ length q → Written row t b k → row ≡ whole_row
  written_all row t b k l e h =
      sym (append-nil row)
      ∙ ap₂ (λ (x y : List ℕ). x ++ y) (sym (take_all t row (omega arith))) (sym (left_end (length q) g (marks_of fixed) (costs_of on off) best t l b k))
      ∙ h
