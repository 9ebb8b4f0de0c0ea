-- The table of a walk: what a row that is stored in it leaves, and the walk's values read from it.
use mathlib.Core.Path.{◌≡◌, sym, ◌∙◌, ap}
use mathlib.Core.Logic.{◌⊎◌, inl, inr, ⊎_elim}
use mathlib.Core.Bool.{Bool, true, false, not}
use mathlib.Core.List.{List}
use Prim.Native.Nat.{ℕ, suc, ◌+◌, ◌*◌, ◌-◌, ◌≤◌, ◌<◌, min}
use native.Mathlib.Nat.{add-zero}
use native.Mathlib.Omega.{arith}
use lib.Dec.{T, leb, leb→le, nleb→lt}
use lib.ListN.{length}
use Rattle.model.specs.declared.generator.Generator.{Generator}
use Rattle.model.specs.Instance.{◌at◌}
use Rattle.model.specs.Ranges.{GoodUnit}
use Rattle.model.specs.Above.{Mark}
use Rattle.model.specs.Walk.{Values, cap, Settled}
use Rattle.model.specs.Table.{values}
use Rattle.model.proofs.Caps.{settled_cap}
use Rattle.model.proofs.WalkPeriods.{values_settled}
use Rattle.walk.specs.Marks.{marks_of}
use Rattle.walk.specs.Limits.{GoodCosts, GoodValue}
use Rattle.walk.specs.GoingBack.{costs_of, Tables, Back}
use Rattle.walk.proofs.WholeTables.{tabled_good, tables_end, tables_back}
use Rattle.runs.specs.Kept.{first_of, kept_in, RowAt, Stored, Kept}

-- ---- a row stored

-- k is from a on or before it
side : (a k : ℕ) → (a ≤ k) ⊎ (k < a)
side a k = go (leb a k) (λ h. leb→le a k h) (λ h. nleb→lt a k h)
  where
    go : (c : Bool) → (T c → a ≤ k) → (T (not c) → k < a) → (a ≤ k) ⊎ (k < a)
    go true f h = inl (f tt)
    go false f h = inr (h tt)

module _ (ons offs old new : List ℕ) (t : ℕ) (S : Stored ons offs old new t) where
  -- it holds the values of its lists
  pub stored_row : (g : Generator) (X : Values) → Tables g X ons offs → RowAt g X new t
  stored_row g X A true k l = rw add-zero (S.on_at k (omega (arith, A.of_on.long)) ∙ A.of_on.entry k l)
  stored_row g X A false k l = S.off_at k (omega (arith, A.of_off.long)) ∙ A.of_off.entry k l

  -- the rows of later periods are as they were
  pub stored_later : (g : Generator) (X : Values) (r : ℕ) → t < r → length offs ≤ 97 → RowAt g X old r → RowAt g X new r
  stored_later g X r i l A b k j = S.behind (r * 145 + first_of b + k) (omega arith) ∙ A b k j

  -- no value is too large
  pub stored_small : ((k : ℕ) → GoodValue (ons at k)) → ((k : ℕ) → GoodValue (offs at k)) → ((k : ℕ) → GoodValue (old at k))
      → (k : ℕ) → GoodValue (new at k)
  stored_small f h o k = ⊎_elim (λ l. row_part (k - t * 145) (omega arith)) (λ l. rw (S.before k l) (o k)) (side (t * 145) k)
    where
      on_part : (j : ℕ) → t * 145 + j ≡ k → j < 48 → GoodValue (new at k)
      on_part j e i =
          let here = ap (λ (x : ℕ). new at x) (sym e) in
          ⊎_elim (λ l. rw (here ∙ S.between j l i) (o (t * 145 + j))) (λ l. rw (here ∙ S.on_at j l) (f j)) (side (length ons) j)

      off_part : (j : ℕ) → t * 145 + 48 + j ≡ k → GoodValue (new at k)
      off_part j e =
          let here = ap (λ (x : ℕ). new at x) (sym e) in
          ⊎_elim (λ l. rw (S.behind k (omega arith)) (o k)) (λ l. rw (here ∙ S.off_at j l) (h j)) (side (length offs) j)

      row_part : (j : ℕ) → t * 145 + j ≡ k → GoodValue (new at k)
      row_part j e = ⊎_elim (λ l. off_part (j - 48) (omega arith)) (λ l. on_part j e l) (side 48 j)

-- ---- the walk from the last period to the first

-- the rows of the periods from t on
pub record Begun (n : ℕ) (g : Generator) (m : ℕ → Mark) (w : ℕ → Bool → ℕ) (t : ℕ) (table : List ℕ) : Type 0 where
  pub long : length table ≡ 7105
  pub rows : (r : ℕ) → t ≤ r → r ≤ n → RowAt g (values n g m w r) table r
  pub small : (k : ℕ) → GoodValue (table at k)

-- the states of each status fit their part of a row
pub states_fit : (g : Generator) → GoodUnit g → {x y : ℕ} → (x ≡ g.TU) × (y ≡ g.TD + g.Tcold + 1) → (x ≤ 48) × (y ≤ 97)
states_fit g good e = (omega (arith, good.in_range.TU_in), omega (arith, good.in_range.TD_in, good.in_range.Tcold_in))

module _ (g : Generator) (good : GoodUnit g) (n : ℕ) (on off fixed : List ℕ) (C : GoodCosts n on off) where
  abbrev X : ℕ → Values
  X = values n g (marks_of fixed) (costs_of on off)

  abbrev BegunAt : ℕ → List ℕ → Type 0
  BegunAt = Begun n g (marks_of fixed) (costs_of on off)

  -- one row more
  begun_more : (ons offs old new : List ℕ) (t : ℕ) → BegunAt (suc t) old → Tables g (X t) ons offs → Stored ons offs old new t → BegunAt t new
  begun_more ons offs old new t B A S = record {
    long = S.same ∙ B.long;
    rows = λ r i j. ⊎_elim
        (λ l. stored_later ons offs old new t S g (X r) r l (states_fit g good (A.of_on.long, A.of_off.long)).1 (B.rows r l j))
        (λ l. let e : r ≡ t = omega arith in rw e (stored_row ons offs old new t S g (X t) A))
        (side (suc t) r);
    small = stored_small ons offs old new t S
        (tabled_good g good n on off fixed C t true ons A.of_on) (tabled_good g good n on off fixed C t false offs A.of_off) B.small;
  }

  -- after the last period
  pub begun_end : (ons offs old new : List ℕ) → (length ons ≡ g.TU) × (length offs ≡ g.TD + g.Tcold + 1)
      → ((k : ℕ) → k < g.TU → ons at k ≡ 1) × ((k : ℕ) → k < g.TD + g.Tcold + 1 → offs at k ≡ 1)
      → (length old ≡ 7105) × ((k : ℕ) → old at k ≡ 0) → Stored ons offs old new n → Tables g (X n) ons offs × BegunAt n new
  begun_end ons offs old new e ones z S =
      let A = tables_end g good n on off fixed C ons offs e ones in
      let none : BegunAt (suc n) old = record { long = z.0; rows = λ r i j. absurd (omega arith); small = λ k. rw (z.1 k) (omega arith) } in
      (A, begun_more ons offs old new n none A S)

  -- one period back
  pub begun_back : (t : ℕ) → 0 < t → t ≤ n → (ons offs ons' offs' old new : List ℕ) → Tables g (X t) ons offs × BegunAt t old
      → Back g (marks_of fixed (t - 1)) (on at (t - 1)) (off at (t - 1)) ons offs ons' offs' → Stored ons' offs' old new (t - 1)
      → Tables g (X (t - 1)) ons' offs' × BegunAt (t - 1) new
  begun_back t i l ons offs ons' offs' old new A back S =
      let A' = tables_back g good n on off fixed C t i l ons offs ons' offs' A.0 back in
      let e : t ≡ suc (t - 1) = omega arith in
      let B' : BegunAt (suc (t - 1)) old = rw e at A.1 in
      (A', begun_more ons' offs' old new (t - 1) B' A' S)

-- ---- a value read

-- a status has a state
cap_pos : (g : Generator) → GoodUnit g → (b : Bool) → 1 ≤ cap g b
cap_pos g good true = good.in_range.TU_in.0
cap_pos g good false = omega arith

-- at the place where the code reads it
pub kept_at : (g : Generator) (table : List ℕ) (t : ℕ) (b d : Bool) (k i : ℕ) → b ≡ d → i ≡ t * 145 + first_of d + (min k (cap g d) - 1)
    → table at i ≡ kept_in g table t b k
kept_at g table t b d k i e h = ap (λ (x : ℕ). table at x) h ∙ ap (λ (x : Bool). kept_in g table t x k) (sym e)

-- of a row
pub kept_value : (g : Generator) (X : Values) → Settled g X → (table : List ℕ) (t : ℕ) → RowAt g X table t → (b : Bool) (k : ℕ) → 1 ≤ k → 1 ≤ cap g b
    → kept_in g table t b k ≡ X b k
kept_value g X settled table t A b k i j =
    let e : suc (min k (cap g b) - 1) ≡ min k (cap g b) = omega arith in
    A b (min k (cap g b) - 1) (omega arith) ∙ ap (X b) e ∙ settled_cap g X settled b k

-- of a walk
pub kept_walk : (n : ℕ) (g : Generator) (m : ℕ → Mark) (w : ℕ → Bool → ℕ) (table : List ℕ) → Kept n g m w table → GoodUnit g
    → (t : ℕ) → t ≤ n → (b : Bool) (k : ℕ) → 1 ≤ k → kept_in g table t b k ≡ values n g m w t b k
kept_walk n g m w table K good t l b k i =
    kept_value g (values n g m w t) (values_settled n g m w t) table t (K.rows t l) b k i (cap_pos g good b)
