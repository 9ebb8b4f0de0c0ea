-- The walk along a row's statuses, period by period from Tini on.
use Rattle.std.specs.Prelude.{Bool, not, List, ℕ, ◌+◌, ◌≤◌}
use Rattle.model.specs.declared.generator.Generator.{Generator}
use Rattle.model.specs.Instance.{◌at◌, sum}
use Rattle.model.specs.Rules.{on, statuses, permits, spent}
use Rattle.model.specs.Cost.{switch_cost}
use Rattle.judge.specs.declared.tallies.Walk.{Walk}
use Rattle.judge.specs.Before.{status_before, spent_before}
use Rattle.judge.specs.Counts.{bit, barred, breaches}

-- one status further
abbrev pub one_further : Generator → Walk → Bool → Walk
one_further g w d = record {
  on = d;
  spent = spent w.on w.spent d;
  barred = w.barred + bit (not (permits g w.on w.spent d));
  cost = w.cost + switch_cost g w.on w.spent d;
}

-- its numbers have room for one status more
pub record Room (w : Walk) : Type 0 where
  pub spent_in : w.spent ≤ 2000
  pub barred_in : w.barred ≤ 1000
  pub cost_in : w.cost ≤ 1000000000000

module _ (g : Generator) (r : List ℕ) where
  -- what a row's status in period t costs
  abbrev pub switch_in : ℕ → ℕ
  switch_in t = switch_cost g (status_before g.on (statuses r) t) (spent_before g.on g.since (statuses r) t) (on (r at t))

  -- the walk along the row's first t periods
  abbrev pub walk_to : ℕ → Walk
  walk_to t = record {
    on = status_before g.on (statuses r) t;
    spent = spent_before g.on g.since (statuses r) t;
    barred = breaches barred g r t;
    cost = sum t switch_in;
  }
