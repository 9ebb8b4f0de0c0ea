-- How the code goes forward over the periods: two lists of the states on and off, of the runs that have changed their status, and beside them the run that has not.
use Rattle.std.specs.Prelude.{◌≡◌, Bool, true, false, cond, List, ℕ, zero, suc, ◌+◌, ◌-◌, ◌≤◌, ◌<◌, eqb, length}
use Rattle.std.specs.Bool.{beq}
use Rattle.model.specs.declared.generator.Generator.{Generator}
use Rattle.model.specs.Instance.{◌at◌}
use Rattle.model.specs.Above.{Mark, allows}
use Rattle.model.specs.Walk.{Values, lesser, move}
use Rattle.model.specs.Table.{kept}
use Rattle.model.specs.Ends.{capped}
use Rattle.model.specs.ForcedWalk.{least_upto}

-- ---- the table

-- nothing from the place t on
abbrev pub Beyond : ℕ → List ℕ → Type 0
Beyond t l = (k : ℕ) → t ≤ k → l at k ≡ 0

-- of two lists that of a status
abbrev pub of_status : List ℕ → List ℕ → Bool → List ℕ
of_status ons offs true = ons
of_status ons offs false = offs

-- a list's value after k periods, from 1
abbrev pub listed : List ℕ → ℕ → ℕ
listed l zero = 0
listed l (suc k) = l at k

-- the value own stands at the state of a run that has not changed its status for k periods
abbrev pub own_at : Generator → ℕ → ℕ → Values
own_at g k own b i = cond (beq b g.on) (cond (eqb i (capped g b k)) own 0) 0

-- the values of all runs: the lesser of the two
abbrev pub states : Generator → ℕ → ℕ → List ℕ → List ℕ → Values
states g k own ons offs b i = lesser (listed (of_status ons offs b) i) (own_at g k own b i)

-- ---- one period forward

-- the entries up to the place top one place on, with the cost v of keeping the status; the first is as it was
pub record Moved (old new : List ℕ) (top : ℕ) (allowed : Bool) (v : ℕ) : Type 0 where
  pub same : length new ≡ length old
  pub first : new at 0 ≡ old at 0
  pub inside : (k : ℕ) → k < top → new at (suc k) ≡ kept allowed v (old at k)
  pub above : (k : ℕ) → top < k → new at k ≡ old at k

-- the new value of the state at k: from the state before it, or what enters the status; to the last one also from itself
abbrev pub shift_at : List ℕ → ℕ → Bool → ℕ → ℕ → ℕ
shift_at old entered allowed v k =
    lesser (cond (eqb k 0) entered (kept allowed v (old at (k - 1)))) (cond (eqb (suc k) (length old)) (kept allowed v (old at k)) 0)

pub record Shifted (old new : List ℕ) (entered : ℕ) (allowed : Bool) (v : ℕ) : Type 0 where
  pub same : length new ≡ length old
  pub each : (k : ℕ) → k < length old → new at k ≡ shift_at old entered allowed v k

-- what enters the status on in a period that costs v on: hot from TD to TD + Tcold periods off, and cold from the last state
abbrev pub started : Generator → Mark → ℕ → List ℕ → ℕ
started g m v offs =
    lesser (kept (allows m true) (g.Hsc + v) (least_upto (suc g.Tcold) (λ i. offs at (g.TD - 1 + i)))) (kept (allows m true) (g.Csc + v) (offs at (g.TD + g.Tcold)))

-- what enters the status off in a period that costs v off: from the last state on
abbrev pub stopped : Generator → Mark → ℕ → List ℕ → ℕ
stopped g m v ons = kept (allows m false) (g.Dc + v) (ons at (g.TU - 1))

-- what the run that has not changed its status for k periods brings to the other status, in a period that costs v in it
abbrev pub own_into : Generator → Mark → ℕ → ℕ → Bool → ℕ → ℕ
own_into g m v k d own = cond (beq g.on d) 0 (move g m v g.on k d own)

-- the lists after the period, from those before it
pub record Stepped (g : Generator) (m : Mark) (w : Bool → ℕ) (k own : ℕ) (ons offs ons' offs' : List ℕ) : Type 0 where
  pub of_on : Shifted ons ons' (lesser (started g m (w true) offs) (own_into g m (w true) k true own)) (allows m true) (w true)
  pub of_off : Shifted offs offs' (lesser (stopped g m (w false) ons) (own_into g m (w false) k false own)) (allows m false) (w false)
