-- The table of a walk: the values before every period and after the last. Those before period t stand from 145·t on, on for 1 to TU periods first and, 48 places on, off for 1 to
-- TD + Tcold + 1.
use Rattle.std.specs.Prelude.{◌≡◌, Bool, true, false, not, cond, List, ℕ, suc, ◌+◌, ◌*◌, ◌-◌, ◌≤◌, ◌<◌, min, eqb, length}
use Rattle.model.specs.declared.generator.Generator.{Generator}
use Rattle.model.specs.Instance.{◌at◌}
use Rattle.model.specs.Rules.{spent}
use Rattle.model.specs.Above.{Mark}
use Rattle.model.specs.Walk.{Values, move, cap}
use Rattle.model.specs.RunWalk.{no_worse}
use Rattle.model.specs.Table.{values}
use Rattle.walk.specs.Marks.{mark_of}
use Rattle.walk.specs.Limits.{GoodValue}

-- where the states of a status begin
abbrev pub first_of : Bool → ℕ
first_of true = 0
first_of false = 48

-- what the table has before period t for k periods in the status b
abbrev pub kept_in : Generator → List ℕ → ℕ → Bool → ℕ → ℕ
kept_in g table t b k = table at (t * 145 + first_of b + (min k (cap g b) - 1))

-- the values X stand there
abbrev pub RowAt : Generator → Values → List ℕ → ℕ → Type 0
RowAt g X table t = (b : Bool) (k : ℕ) → k < cap g b → table at (t * 145 + first_of b + k) ≡ X b (suc k)

-- two lists of values stored before period t, and all before and behind that row as it was
pub record Stored (ons offs old new : List ℕ) (t : ℕ) : Type 0 where
  pub same : length new ≡ length old
  pub on_at : (k : ℕ) → k < length ons → new at (t * 145 + k) ≡ ons at k
  pub off_at : (k : ℕ) → k < length offs → new at (t * 145 + 48 + k) ≡ offs at k
  pub between : (k : ℕ) → length ons ≤ k → k < 48 → new at (t * 145 + k) ≡ old at (t * 145 + k)
  pub before : (k : ℕ) → k < t * 145 → new at k ≡ old at k
  pub behind : (k : ℕ) → t * 145 + 48 + length offs ≤ k → new at k ≡ old at k

-- the table of a walk over n periods
pub record Kept (n : ℕ) (g : Generator) (m : ℕ → Mark) (w : ℕ → Bool → ℕ) (table : List ℕ) : Type 0 where
  pub long : length table ≡ 7105
  pub rows : (t : ℕ) → t ≤ n → RowAt g (values n g m w t) table t
  pub small : (k : ℕ) → GoodValue (table at k)

-- the status in the period before period t of the table: on, unless off is no worse
abbrev pub status_by : Generator → ℕ → ℕ → ℕ → List ℕ → ℕ → Bool → ℕ → Bool
status_by g mark on off table t b k =
    not (no_worse (move g (mark_of mark) off b k false (kept_in g table t false (spent b k false))) (move g (mark_of mark) on b k true (kept_in g table t true (spent b k true))))

-- a row: the new one where a coded value is there, else as it was
abbrev pub row_found : ℕ → List ℕ → List ℕ → List ℕ
row_found value old new = cond (eqb value 0) old new
