-- The entries filled in period by period: those of the periods passed are the walks with a status forced, and the walk forward stands before the next period.
use mathlib.Core.Path.{◌≡◌, ◌∙◌, ap}
use mathlib.Core.Logic.{◌⊎◌, inl, inr}
use mathlib.Core.Bool.{Bool, true, false}
use mathlib.Core.List.{List}
use Prim.Native.Nat.{ℕ, suc, ◌+◌, ◌*◌, ◌≤◌, ◌<◌}
use native.Mathlib.Nat.{eq-or-lt_of_le}
use native.Mathlib.Omega.{arith}
use lib.ListN.{length, set, length-set}
use lib.Seq.{get_or-set_same, get_or-set_other}
use Rattle.model.specs.declared.generator.Generator.{Generator}
use Rattle.model.specs.Instance.{◌at◌}
use Rattle.model.specs.Ranges.{GoodUnit}
use Rattle.model.specs.Above.{Mark}
use Rattle.model.specs.Walk.{move}
use Rattle.model.specs.ForcedWalk.{forced_walk}
use Rattle.model.proofs.LeafSizes.{all_at}
use Rattle.walk.specs.Limits.{GoodCosts}
use Rattle.walk.specs.GoingBack.{costs_of}
use Rattle.runs.specs.Kept.{Kept}
use Rattle.forced.specs.Forward.{of_status, Stepped}
use Rattle.forced.specs.Entries.{entry_of, Entered}
use Rattle.forced.proofs.Ready.{Ready, ready_next, ready_entry}

-- what a period costs fits, from two lists of costs
pub costs_fit : {n : ℕ} {on off : List ℕ} → GoodCosts n on off → (t : ℕ) (d : Bool) → costs_of on off t d ≤ 1_000_000_000_000_000
costs_fit {n} {on} {off} C t true = (all_at 1_000_000_000_000_000 on C.on_in t).1
costs_fit {n} {on} {off} C t false = (all_at 1_000_000_000_000_000 off C.off_in t).1

-- before period t of n
pub record Filling (n : ℕ) (g : Generator) (m : ℕ → Mark) (w : ℕ → Bool → ℕ) (t own : ℕ) (ons offs entries : List ℕ) : Type 0 where
  pub ready : Ready n g m w t own ons offs
  pub long : length entries ≡ 2 * n
  pub entered : Entered n g m w t entries

module _ {n : ℕ} {g : Generator} {m : ℕ → Mark} {w : ℕ → Bool → ℕ} (good : GoodUnit g) where
  -- after a step
  pub stepped_ready : {t own own' : ℕ} {ons offs ons' offs' entries : List ℕ} → ((d : Bool) → w t d ≤ 1_000_000_000_000_000)
      → Filling n g m w t own ons offs entries → Stepped g (m t) (w t) (g.since + t) own ons offs ons' offs'
      → own' ≡ move g (m t) (w t g.on) g.on (g.since + t) g.on own → Ready n g m w (suc t) own' ons' offs'
  stepped_ready fits F S next = ready_next good fits F.ready S next

  -- the lists are short enough for a row of the table
  pub states_few : {t own : ℕ} {ons offs : List ℕ} → Ready n g m w t own ons offs → (d : Bool) → length (of_status ons offs d) ≤ 97
  states_few R true = omega (arith, R.on_long, good.in_range.TU_in)
  states_few R false = omega (arith, R.off_long, good.in_range.TD_in, good.in_range.Tcold_in)

module _ {n : ℕ} {g : Generator} {m : ℕ → Mark} {w : ℕ → Bool → ℕ} (good : GoodUnit g) {table : List ℕ} (kept : Kept n g m w table) where
  -- one period more
  filling_more : (t own own' : ℕ) (ons offs ons' offs' entries : List ℕ) → t < n → ((d : Bool) → w t d ≤ 1_000_000_000_000_000)
      → Filling n g m w t own ons offs entries → Stepped g (m t) (w t) (g.since + t) own ons offs ons' offs'
      → own' ≡ move g (m t) (w t g.on) g.on (g.since + t) g.on own
      → (x y : ℕ) → x ≡ entry_of g table (suc t) false offs' own' → y ≡ entry_of g table (suc t) true ons' own'
      → Filling n g m w (suc t) own' ons' offs' (set (set entries (2 * t) x) (2 * t + 1) y)
  filling_more t own own' ons offs ons' offs' entries l fits F S next x y ex ey = record { ready = R; long = same ∙ F.long; entered = here }
    where
      R : Ready n g m w (suc t) own' ons' offs'
      R = ready_next good fits F.ready S next

      mid : List ℕ
      mid = set entries (2 * t) x

      mid_long : length mid ≡ length entries
      mid_long = length-set entries (2 * t) x

      new : List ℕ
      new = set mid (2 * t + 1) y

      same : length new ≡ length entries
      same = length-set mid (2 * t + 1) y ∙ mid_long

      room : 2 * t + 1 < length entries
      room = omega (arith, F.long)

      -- the others are as they were
      other : (k : ℕ) → k < 2 * t → new at k ≡ entries at k
      other k h = get_or-set_other mid (2 * t + 1) k y 0 (λ e. omega arith) ∙ get_or-set_other entries (2 * t) k x 0 (λ e. omega arith)

      first : new at (2 * t) ≡ forced_walk n g m w t false
      first =
          get_or-set_other mid (2 * t + 1) (2 * t) y 0 (λ e. omega arith) ∙ get_or-set_same entries (2 * t) x 0 (omega (arith, room)) ∙ ex
          ∙ ready_entry good kept l R false

      second : new at (2 * t + 1) ≡ forced_walk n g m w t true
      second = get_or-set_same mid (2 * t + 1) y 0 (omega (arith, room, mid_long)) ∙ ey ∙ ready_entry good kept l R true

      here : Entered n g m w (suc t) new
      here r h = go (eq-or-lt_of_le h)
        where
          go : (suc r ≡ suc t) ⊎ (suc r < suc t) → (new at (2 * r) ≡ forced_walk n g m w r false) × (new at (2 * r + 1) ≡ forced_walk n g m w r true)
          go (inl e) = let i : r ≡ t = omega arith in rw i (first, second)
          go (inr i) = let E = F.entered r (omega arith) in (other (2 * r) (omega arith) ∙ E.0, other (2 * r + 1) (omega arith) ∙ E.1)

  -- the same, the next period being r
  pub filling_next : (t r : ℕ) → r ≡ suc t → (own own' : ℕ) (ons offs ons' offs' entries : List ℕ) → t < n → ((d : Bool) → w t d ≤ 1_000_000_000_000_000)
      → Filling n g m w t own ons offs entries → Stepped g (m t) (w t) (g.since + t) own ons offs ons' offs'
      → own' ≡ move g (m t) (w t g.on) g.on (g.since + t) g.on own
      → (x y : ℕ) → x ≡ entry_of g table r false offs' own' → y ≡ entry_of g table r true ons' own'
      → Filling n g m w r own' ons' offs' (set (set entries (2 * t) x) (2 * t + 1) y)
  filling_next t r e own own' ons offs ons' offs' entries l fits F S next x y ex ey =
      rw e
      (filling_more t own own' ons offs ons' offs' entries l fits F S next x y (ex ∙ ap (λ (k : ℕ). entry_of g table k false offs' own') e)
      (ey ∙ ap (λ (k : ℕ). entry_of g table k true ons' own') e))
