-- The walk over whole tables of states, from two lists of costs: it starts with ones, one step back keeps it the table of the periods
-- left, every value fits, and the state before period 1 is read from it.
use mathlib.Core.Path.{◌≡◌, sym, ◌∙◌, ap}
use mathlib.Core.Bool.{Bool, true, false}
use mathlib.Core.List.{List}
use Prim.Native.Nat.{ℕ, suc, ◌+◌, ◌-◌, ◌≤◌, ◌<◌, min}
use native.Mathlib.Omega.{arith}
use lib.ListN.{length}
use Rattle.model.specs.declared.generator.Generator.{Generator}
use Rattle.model.specs.Instance.{◌at◌}
use Rattle.model.specs.Ranges.{GoodUnit}
use Rattle.model.specs.Walk.{walk, cap}
use Rattle.model.specs.Table.{Tabled, values}
use Rattle.model.proofs.WalkPeriods.{values_settled}
use Rattle.model.proofs.Tables.{tabled_most, on_chained, off_chained, tabled_end, tabled_back, tabled_start}
use Rattle.walk.specs.Marks.{marks_of}
use Rattle.walk.specs.Limits.{GoodCosts, GoodValue}
use Rattle.walk.specs.GoingBack.{costs_of, Tables, Back}
use Rattle.walk.proofs.Walks.{values_good}

module _ (g : Generator) (good : GoodUnit g) (n : ℕ) (on off fixed : List ℕ) (C : GoodCosts n on off) where
  -- what the table holds leaves room for a sum
  pub tabled_good : (t : ℕ) (b : Bool) (l : List ℕ) → Tabled g (values n g (marks_of fixed) (costs_of on off) t) b l → (k : ℕ) → GoodValue (l at k)
  tabled_good t b l E k =
      (omega arith, tabled_most g (values n g (marks_of fixed) (costs_of on off) t) b l E 1_000_000_000_000_000_000 (λ j. (values_good g good n on off fixed C t b j).1) k)

  -- after the last period
  pub tables_end : (ons offs : List ℕ) → (length ons ≡ g.TU) × (length offs ≡ g.TD + g.Tcold + 1)
      → ((k : ℕ) → k < g.TU → ons at k ≡ 1) × ((k : ℕ) → k < g.TD + g.Tcold + 1 → offs at k ≡ 1)
      → Tables g (values n g (marks_of fixed) (costs_of on off) n) ons offs
  tables_end ons offs e h = record {
    of_on = tabled_end n g (marks_of fixed) (costs_of on off) true ons e.0 h.0;
    of_off = tabled_end n g (marks_of fixed) (costs_of on off) false offs e.1 h.1;
  }

  -- one period back
  pub tables_back : (t : ℕ) → 0 < t → t ≤ n → (ons offs ons' offs' : List ℕ) → Tables g (values n g (marks_of fixed) (costs_of on off) t) ons offs
      → Back g (marks_of fixed (t - 1)) (on at (t - 1)) (off at (t - 1)) ons offs ons' offs'
      → Tables g (values n g (marks_of fixed) (costs_of on off) (t - 1)) ons' offs'
  tables_back t i l ons offs ons' offs' A B =
      let e : t ≡ suc (t - 1) = omega arith in
      let A' : Tables g (values n g (marks_of fixed) (costs_of on off) (suc (t - 1))) ons offs = rw e at A in
      let W = costs_of on off in
      let X = values n g (marks_of fixed) W (suc (t - 1)) in
      let S = values_settled n g (marks_of fixed) W (suc (t - 1)) in
      let TU_pos : 0 < g.TU = good.in_range.TU_in.0 in
      record {
        of_on = tabled_back n g (marks_of fixed) W (t - 1) (omega arith) true ons'
            (on_chained g (marks_of fixed (t - 1)) (W (t - 1)) X ons offs S A'.of_on A'.of_off TU_pos ons' B.of_on);
        of_off = tabled_back n g (marks_of fixed) W (t - 1) (omega arith) false offs'
            (off_chained g (marks_of fixed (t - 1)) (W (t - 1)) X ons offs S A'.of_on A'.of_off TU_pos offs' B.of_off);
      }

  -- before the first: the state's value, read from its status's list
  pub tables_read : (b : Bool) (l : List ℕ) → Tabled g (values n g (marks_of fixed) (costs_of on off) 0) b l → g.on ≡ b → (i : ℕ)
      → i ≡ min g.since (cap g b) - 1 → 0 < cap g b → l at i ≡ walk n g (marks_of fixed) (costs_of on off) g.on g.since
  tables_read b l E e i at_i pos_cap =
      let since_pos : 0 < g.since = good.in_range.since_in.0 in
      ap (λ (k : ℕ). l at k) at_i
      ∙ tabled_start n g (marks_of fixed) (costs_of on off) b l E g.since since_pos pos_cap
      ∙ ap (λ (d : Bool). walk n g (marks_of fixed) (costs_of on off) d g.since) (sym e)
