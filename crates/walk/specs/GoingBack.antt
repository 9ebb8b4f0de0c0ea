-- How the code goes back over the periods: what a period costs by its status, and one period back over the table of states, in
-- place (the model's Table).
use Rattle.std.specs.Prelude.{◌≡◌, Bool, true, false, not, cond, List, ℕ, suc, ◌+◌, ◌≤◌, ◌<◌, eqb, length, get_or}
use Rattle.model.specs.declared.generator.Generator.{Generator}
use Rattle.model.specs.Instance.{◌at◌}
use Rattle.model.specs.Above.{Mark, allows}
use Rattle.model.specs.Walk.{lesser, Values}
use Rattle.model.specs.Table.{Tabled, kept, leave, enter, Chained}

-- what a period costs on, and off
abbrev pub by_status : ℕ → ℕ → Bool → ℕ
by_status on off true = on
by_status on off false = off

-- of each period, from two lists
abbrev pub costs_of : List ℕ → List ℕ → ℕ → Bool → ℕ
costs_of on off t = by_status (on at t) (off at t)

-- the values of all states, from two lists
pub record Tables (g : Generator) (X : Values) (ons offs : List ℕ) : Type 0 where
  pub of_on : Tabled g X true ons
  pub of_off : Tabled g X false offs

-- a list begins with the values of the first r states of the status b
abbrev pub Known : Values → Bool → ℕ → List ℕ → Type 0
Known X b r l = (k : ℕ) → k < r → l at k ≡ X b (suc k)

-- the lists after one period back, from those before
pub record Back (g : Generator) (m : Mark) (on off : ℕ) (ons offs ons' offs' : List ℕ) : Type 0 where
  pub of_on : Chained ons ons' g.TU (leave g m off offs) (leave g m off offs) (allows m true) on
  pub of_off : Chained offs offs' g.TD (enter g.Hsc m on ons) (enter g.Csc m on ons) (allows m false) off

-- a list in which the entries from `from` to `to` are now f k, and the others as they were
pub record Rewritten (old new : List ℕ) (from to : ℕ) (f : ℕ → ℕ) : Type 0 where
  pub same : length new ≡ length old
  pub inside : (k : ℕ) → from ≤ k → k < to → get_or new k 0 ≡ f k
  pub below : (k : ℕ) → k < from → get_or new k 0 ≡ get_or old k 0
  pub above : (k : ℕ) → to ≤ k → get_or new k 0 ≡ get_or old k 0

-- the states of one status one period back, in three runs: those below `from` cannot be left, those from there on for early, and
-- the last for last
pub record Backed (old new : List ℕ) (from early last : ℕ) (allowed : Bool) (v : ℕ) : Type 0 where
  pub same : length new ≡ length old
  pub low : (k : ℕ) → k < from → get_or new k 0 ≡ kept allowed v (get_or old (k + 1) 0)
  pub high : (k : ℕ) → from ≤ k → k + 1 < length old → get_or new k 0 ≡ lesser early (kept allowed v (get_or old (k + 1) 0))
  pub end : (k : ℕ) → k + 1 ≡ length old → get_or new k 0 ≡ lesser last (kept allowed v (get_or old k 0))

-- every state of a list has a value
abbrev pub Valued : List ℕ → Type 0
Valued l = (k : ℕ) → k < length l → 0 < l at k

-- every state has one if the first has: later states are permitted more
abbrev pub Rising : List ℕ → Type 0
Rising l = 0 < l at 0 → Valued l

-- whether a mark's byte is 0 and two values are there
abbrev pub is_open : ℕ → ℕ → ℕ → Bool
is_open mark x y = cond (eqb mark 0) (cond (eqb x 0) false (not (eqb y 0))) false
