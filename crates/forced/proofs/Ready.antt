-- What holds before every period of the walk forward: the lists have their lengths, reach no further than the periods passed, hold no value that is too large, and
-- mean what a table of the periods passed means. So it is at the start, so it stays over a step, and so the entries are the walks with a status forced.
use mathlib.Core.Path.{◌≡◌, refl, ◌∙◌, ap, subst}
use mathlib.Core.Logic.{◌⊎◌, inl, inr}
use mathlib.Core.Bool.{Bool, true, false}
use mathlib.Core.List.{List}
use Prim.Native.Nat.{ℕ, zero, suc, ◌+◌, ◌≤◌, ◌<◌}
use native.Mathlib.Omega.{arith}
use lib.ListN.{length}
use Rattle.model.specs.declared.generator.Generator.{Generator}
use Rattle.model.specs.Instance.{◌at◌}
use Rattle.model.specs.Ranges.{GoodUnit}
use Rattle.model.specs.Above.{Mark}
use Rattle.model.specs.Walk.{Values, move}
use Rattle.model.specs.Ends.{capped}
use Rattle.model.specs.ForcedWalk.{forced_walk, Ahead}
use Rattle.model.proofs.Coded.{lesser_right, lesser_one}
use Rattle.model.proofs.Passed.{Passed}
use Rattle.model.proofs.PassedPeriods.{passed_start, passed_next}
use Rattle.model.proofs.ForcedWalks.{entry_is}
use Rattle.walk.specs.Limits.{GoodValue}
use Rattle.runs.specs.Kept.{Kept}
use Rattle.forced.specs.Forward.{Beyond, of_status, listed, own_at, states, Stepped}
use Rattle.forced.specs.Entries.{entry_of}
use Rattle.forced.proofs.Owns.{own_here, own_only}
use Rattle.forced.proofs.Steps.{step_ahead}
use Rattle.forced.proofs.Reached.{beyond_next, most, most_good, small_next, own_small_next}
use Rattle.forced.proofs.Joins.{entry_joined}

-- before period t of n
pub record Ready (n : ℕ) (g : Generator) (m : ℕ → Mark) (w : ℕ → Bool → ℕ) (t own : ℕ) (ons offs : List ℕ) : Type 0 where
  pub on_long : length ons ≡ g.TU
  pub off_long : length offs ≡ g.TD + g.Tcold + 1
  pub beyond_on : Beyond t ons
  pub beyond_off : Beyond t offs
  pub small_on : (k : ℕ) → ons at k ≤ most t
  pub small_off : (k : ℕ) → offs at k ≤ most t
  pub small_own : own ≤ most t
  pub passed : Passed g m w t (states g (g.since + t) own ons offs)

-- ---- at the start

module _ (g : Generator) (ons offs : List ℕ) (none : ((k : ℕ) → ons at k ≡ 0) × ((k : ℕ) → offs at k ≡ 0)) where
  abbrev X : Values
  X = states g (g.since + 0) 1 ons offs

  nothing_listed : (b : Bool) (k : ℕ) → listed (of_status ons offs b) k ≡ 0
  nothing_listed b zero = refl
  nothing_listed true (suc k) = none.0 k
  nothing_listed false (suc k) = none.1 k

  -- a value is that of the run that has not changed its status
  start_own : (b : Bool) (k : ℕ) → 0 < X b k → X b k ≡ own_at g (g.since + 0) 1 b k
  start_own b k h = go (lesser_one (listed (of_status ons offs b) k) (own_at g (g.since + 0) 1 b k))
    where
      go : (X b k ≡ listed (of_status ons offs b) k) ⊎ (X b k ≡ own_at g (g.since + 0) 1 b k) → X b k ≡ own_at g (g.since + 0) 1 b k
      go (inl e) = absurd (omega (arith, e, nothing_listed b k, h))
      go (inr e) = e

  start_passed : {m : ℕ → Mark} {w : ℕ → Bool → ℕ} → Passed g m w 0 X
  start_passed = passed_start X one only
    where
      K : ℕ
      K = capped g g.on g.since

      at_since : capped g g.on (g.since + 0) ≡ K
      at_since = let e : g.since + 0 ≡ g.since = omega arith in ap (capped g g.on) e

      here : own_at g (g.since + 0) 1 g.on K ≡ 1
      here = subst (λ (k : ℕ). own_at g (g.since + 0) 1 g.on k ≡ 1) at_since (own_here g (g.since + 0) 1)

      one : X g.on K ≡ 1
      one =
          let i = lesser_right (listed (of_status ons offs g.on) K) (own_at g (g.since + 0) 1 g.on K) (omega (arith, here)) in
          start_own g.on K i.0 ∙ here

      only : (b : Bool) (k : ℕ) → 0 < X b k → (b ≡ g.on) × (k ≡ K)
      only b k h =
          let o = own_only g (g.since + 0) 1 b k (omega (arith, start_own b k h, h)) in
          (o.0, o.1 ∙ at_since)

  pub ready_start : {n : ℕ} {m : ℕ → Mark} {w : ℕ → Bool → ℕ} → (length ons ≡ g.TU) × (length offs ≡ g.TD + g.Tcold + 1) → Ready n g m w 0 1 ons offs
  ready_start long = record {
    on_long = long.0;
    off_long = long.1;
    beyond_on = λ k l. none.0 k;
    beyond_off = λ k l. none.1 k;
    small_on = λ k. omega (arith, none.0 k);
    small_off = λ k. omega (arith, none.1 k);
    small_own = omega arith;
    passed = start_passed;
  }

module _ {n : ℕ} {g : Generator} {m : ℕ → Mark} {w : ℕ → Bool → ℕ} where
  -- ---- over a step

  pub ready_next : GoodUnit g → {t own own' : ℕ} {ons offs ons' offs' : List ℕ} → ((d : Bool) → w t d ≤ 1_000_000_000_000_000) → Ready n g m w t own ons offs
      → Stepped g (m t) (w t) (g.since + t) own ons offs ons' offs' → own' ≡ move g (m t) (w t g.on) g.on (g.since + t) g.on own
      → Ready n g m w (suc t) own' ons' offs'
  ready_next good {t} {own} {own'} {ons} {offs} {ons'} {offs'} cheap R S next = record {
    on_long = S.of_on.same ∙ R.on_long;
    off_long = S.of_off.same ∙ R.off_long;
    beyond_on = beyond_next t S.of_on R.beyond_on;
    beyond_off = beyond_next t S.of_off R.beyond_off;
    small_on = small_next good cheap S next t small R.small_own true;
    small_off = small_next good cheap S next t small R.small_own false;
    small_own = own_small_next good cheap S next t small R.small_own;
    passed = subst (λ (k : ℕ). Passed g m w (suc t) (states g k own' ons' offs')) later (passed_next good R.passed ahead);
  }
    where
      small : (d : Bool) (i : ℕ) → of_status ons offs d at i ≤ most t
      small true i = R.small_on i
      small false i = R.small_off i

      later : suc (g.since + t) ≡ g.since + suc t
      later = omega arith

      since : 1 ≤ g.since + t
      since = omega (arith, good.in_range.since_in.0)

      ahead : Ahead g (m t) (w t) (states g (g.since + t) own ons offs) (states g (suc (g.since + t)) own' ons' offs')
      ahead = step_ahead good (m t) (w t) (g.since + t) own own' since ons offs ons' offs' (R.on_long, R.off_long) S next

  -- ---- sizes

  pub ready_good : {t own : ℕ} {ons offs : List ℕ} → t ≤ 48 → Ready n g m w t own ons offs
      → ((k : ℕ) → GoodValue (ons at k)) × ((k : ℕ) → GoodValue (offs at k)) × GoodValue own
  ready_good {t} {own} {ons} {offs} l R =
      (λ k. most_good t (ons at k) l (R.small_on k), λ k. most_good t (offs at k) l (R.small_off k), most_good t own l R.small_own)

  -- ---- the entries

  pub ready_entry : GoodUnit g → {table : List ℕ} → Kept n g m w table → {t own : ℕ} {ons offs : List ℕ} → t < n
      → Ready n g m w (suc t) own ons offs → (d : Bool)
      → entry_of g table (suc t) d (of_status ons offs d) own ≡ forced_walk n g m w t d
  ready_entry good {table} K {t} {own} {ons} {offs} l R d =
      entry_is good n t l d (states g (g.since + suc t) own ons offs) R.passed (entry_of g table (suc t) d (of_status ons offs d) own)
      (entry_joined good K (suc t) l own ons offs (R.on_long, R.off_long) (R.beyond_on, R.beyond_off) d)
