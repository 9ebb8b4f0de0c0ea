-- What the theorems of the functions that run say: the contract of each, whole. Nothing is asked of the caller, and what comes back and what the lent buffer
-- then holds are those of the definitions. A contract that said less would not be equal to these.
use mathlib.Core.Path.{◌≡◌, refl}
use seplogic.Ra.Ura.{Ura}
use base.Logic.{SProp, emp, sep}
use prog.Memory.{Memory}
use prog.Routine.{Routine}
use contract.Monad.{Fun, fact}
use denote.Triple.Clauses.{closing}
use types.Logic.{Logic}
use Rattle.docket.specs.Docket.{fresh_docket}
use Rattle.docket.specs.Lodging.{lodge_of}
use Rattle.docket.specs.Report.{report_of, buffer_of}
use Rattle.docket.specs.Taking.{taken_of}
use Rattle.docket.specs.Drafting.{runs_of}
use Rattle.docket.specs.Forcing.{forced_of}
use Rattle.docket.specs.contracts.Docket.fresh as fresh
use Rattle.docket.specs.contracts.Docket.lodge as lodge
use Rattle.docket.specs.contracts.Docket.report as report
use Rattle.docket.specs.contracts.Docket.units_taken as units_taken
use Rattle.docket.specs.contracts.Docket.cheapest_runs as cheapest_runs
use Rattle.docket.specs.contracts.Docket.forced_statuses as forced_statuses

module _ {M : Type 1} {𝓤 : Ura M} (𝓛 : Logic 𝓤) (m : Memory → SProp 𝓤) (run : Routine → Fun 𝓤) where
  -- fresh(): a docket that holds nothing
  pub fresh_says : fresh.spec 𝓛 m run
      ≡ closing 𝓛 fresh.ended (λ κs a. record { ghost = Unit {0}; requires = λ g. emp 𝓤; ensures = λ g r e. fact 𝓤 (r ≡ fresh_docket) })
  fresh_says = refl

  -- lodge(docket, text): the docket and the answer after it
  pub lodge_says : lodge.spec 𝓛 m run
      ≡ closing 𝓛 lodge.ended (λ κs a. record {
        ghost = Unit {0};
        requires = λ g. emp 𝓤;
        ensures = λ g r e. fact 𝓤 (r ≡ lodge_of a.0 a.1.0.now);
      })
  lodge_says = refl

  -- report(docket, buffer, place): the docket and the answer after it, and the buffer
  pub report_says : report.spec 𝓛 m run
      ≡ closing 𝓛 report.ended (λ κs a. record {
        ghost = Unit {0};
        requires = λ g. emp 𝓤;
        ensures = λ g r e. sep 𝓤 (fact 𝓤 (r ≡ report_of a.0 a.1.0.now a.1.1.0))
            (fact 𝓤 (e.1.0.now ≡ buffer_of a.0 a.1.0.now a.1.1.0));
      })
  report_says = refl

  -- units_taken(docket, period, most, fixed): what is told of the units that `short` takes
  pub units_taken_says : units_taken.spec 𝓛 m run
      ≡ closing 𝓛 units_taken.ended (λ κs a. record {
        ghost = Unit {0};
        requires = λ g. emp 𝓤;
        ensures = λ g r e. fact 𝓤 (r ≡ taken_of a.0 a.1.0 a.1.1.0 a.1.1.1.0.now);
      })
  units_taken_says = refl

  -- cheapest_runs(docket, q, s, fixed, rows, short): what is told of the runs of a price leaf, and the two slices
  pub cheapest_runs_says : cheapest_runs.spec 𝓛 m run
      ≡ closing 𝓛 cheapest_runs.ended (λ κs a. record {
        ghost = Unit {0};
        requires = λ g. emp 𝓤;
        ensures = λ g r e.
            let told = runs_of a.0 a.1.0.now a.1.1.0.now a.1.1.1.0.now a.1.1.1.1.0.now a.1.1.1.1.1.0.now in
            sep 𝓤 (fact 𝓤 (r ≡ told.answer)) (sep 𝓤 (fact 𝓤 (e.1.1.1.1.0.now ≡ told.rows)) (fact 𝓤 (e.1.1.1.1.1.0.now ≡ told.short)));
      })
  cheapest_runs_says = refl

  -- forced_statuses(docket, q, s, fixed, values, stuck): what is told of forced statuses, and the two slices
  pub forced_statuses_says : forced_statuses.spec 𝓛 m run
      ≡ closing 𝓛 forced_statuses.ended (λ κs a. record {
        ghost = Unit {0};
        requires = λ g. emp 𝓤;
        ensures = λ g r e.
            let told = forced_of a.0 a.1.0.now a.1.1.0.now a.1.1.1.0.now a.1.1.1.1.0.now a.1.1.1.1.1.0.now in
            sep 𝓤 (fact 𝓤 (r ≡ told.answer)) (sep 𝓤 (fact 𝓤 (e.1.1.1.1.0.now ≡ told.values)) (fact 𝓤 (e.1.1.1.1.1.0.now ≡ told.stuck)));
      })
  forced_statuses_says = refl
