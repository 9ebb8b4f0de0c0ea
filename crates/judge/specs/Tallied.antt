-- What one pass over the units counts and sums.
use Rattle.std.specs.Prelude.{List, ℕ}
use Rattle.model.specs.declared.generator.Generator.{Generator}
use Rattle.model.specs.declared.arrays.Problem.{Problem}
use Rattle.model.specs.Held.{view}
use Rattle.model.specs.Breach.{off_limits, off_ramp}
use Rattle.model.specs.Cost.{row_cost, cost}
use Rattle.judge.specs.declared.tallies.Tallies.{Tallies}
use Rattle.judge.specs.Rows.{schedule_of}
use Rattle.judge.specs.Counts.{barred, breaches, all_breaches}

-- of a row of n outputs
abbrev pub row_tallies : ℕ → Generator → List ℕ → Tallies
row_tallies n g r = record {
  limits = breaches off_limits g r n;
  updown = breaches barred g r n;
  ramps = breaches off_ramp g r n;
  cost = row_cost n g r;
}

-- of the schedule of a problem's units in the list
abbrev pub tallies : Problem → List ℕ → Tallies
tallies p l = record {
  limits = all_breaches off_limits p l p.units;
  updown = all_breaches barred p l p.units;
  ramps = all_breaches off_ramp p l p.units;
  cost = cost (view p) (schedule_of p l);
}
