-- What the theorems of the calls say: the contract of each, whole. Nothing is asked of the caller, and what comes back and what every lent slice then
-- holds are those of the definitions. A contract that said less would not be equal to these.
use mathlib.Core.Path.{◌≡◌, refl}
use seplogic.Ra.Ura.{Ura}
use base.Logic.{SProp, emp, sep}
use prog.Memory.{Memory}
use prog.Routine.{Routine}
use contract.Monad.{Fun, fact}
use denote.Triple.Clauses.{closing}
use types.Logic.{Logic}
use Rattle.list.specs.Listing.{listed_of, output_of}
use Rattle.docket_host.specs.HostAnswer.{host_answer}
use Rattle.state.specs.Layout.{numbers_count, rows_count}
use Rattle.docket_host.specs.Calls.{rules, fresh_answer, fresh_numbers, fresh_rows, lodge_answer, lodge_numbers, lodge_rows, lodge_line, lodge_values, report_answer, report_bytes, outputs_answer, outputs_rows, taken_answer, taken_numbers, runs_answer, runs_rows, runs_short, runs_value, forced_answer, forced_values, forced_stuck}
use Rattle.docket_host.specs.contracts.docket_rules as rules_asked
use Rattle.docket_host.specs.contracts.docket_numbers as numbers_asked
use Rattle.docket_host.specs.contracts.docket_rows as rows_asked
use Rattle.docket_host.specs.contracts.docket_fresh as fresh
use Rattle.docket_host.specs.contracts.docket_lodge as lodge
use Rattle.docket_host.specs.contracts.docket_report as report
use Rattle.docket_host.specs.contracts.docket_outputs as outputs
use Rattle.docket_host.specs.contracts.docket_units_taken as units_taken
use Rattle.docket_host.specs.contracts.docket_cheapest_runs as cheapest_runs
use Rattle.docket_host.specs.contracts.docket_forced_statuses as forced_statuses
use Rattle.docket_host.specs.contracts.docket_listing as listing

module _ {M : Type 1} {𝓤 : Ura M} (𝓛 : Logic 𝓤) (m : Memory → SProp 𝓤) (run : Routine → Fun 𝓤) where
  -- docket_rules(), docket_numbers(), docket_rows()
  pub rules_say : rules_asked.spec 𝓛 m run
      ≡ closing 𝓛 rules_asked.ended (λ κs a. record { ghost = Unit {0}; requires = λ g. emp 𝓤; ensures = λ g r e. fact 𝓤 (r ≡ rules) })
  rules_say = refl

  pub numbers_say : numbers_asked.spec 𝓛 m run
      ≡ closing 𝓛 numbers_asked.ended (λ κs a. record { ghost = Unit {0}; requires = λ g. emp 𝓤; ensures = λ g r e. fact 𝓤 (r ≡ numbers_count) })
  numbers_say = refl

  pub rows_say : rows_asked.spec 𝓛 m run
      ≡ closing 𝓛 rows_asked.ended (λ κs a. record { ghost = Unit {0}; requires = λ g. emp 𝓤; ensures = λ g r e. fact 𝓤 (r ≡ rows_count) })
  rows_say = refl

  -- docket_fresh(numbers, rows)
  pub fresh_says : fresh.spec 𝓛 m run
      ≡ closing 𝓛 fresh.ended (λ κs a. record {
        ghost = Unit {0};
        requires = λ g. emp 𝓤;
        ensures = λ g r e. sep 𝓤 (fact 𝓤 (r ≡ fresh_answer a.0.now a.1.0.now))
            (sep 𝓤 (fact 𝓤 (e.0.now ≡ fresh_numbers a.0.now a.1.0.now)) (fact 𝓤 (e.1.0.now ≡ fresh_rows a.0.now a.1.0.now)));
      })
  fresh_says = refl

  -- docket_lodge(numbers, rows, text, line, values)
  pub lodge_says : lodge.spec 𝓛 m run
      ≡ closing 𝓛 lodge.ended (λ κs a. record {
        ghost = Unit {0};
        requires = λ g. emp 𝓤;
        ensures = λ g r e. sep 𝓤 (fact 𝓤 (r ≡ lodge_answer a.0.now a.1.0.now a.1.1.0.now a.1.1.1.0.now a.1.1.1.1.0.now))
            (sep 𝓤 (fact 𝓤 (e.0.now ≡ lodge_numbers a.0.now a.1.0.now a.1.1.0.now a.1.1.1.0.now a.1.1.1.1.0.now))
            (sep 𝓤 (fact 𝓤 (e.1.0.now ≡ lodge_rows a.0.now a.1.0.now a.1.1.0.now a.1.1.1.0.now a.1.1.1.1.0.now))
            (sep 𝓤 (fact 𝓤 (e.1.1.1.0.now ≡ lodge_line a.0.now a.1.0.now a.1.1.0.now a.1.1.1.0.now a.1.1.1.1.0.now))
            (fact 𝓤 (e.1.1.1.1.0.now ≡ lodge_values a.0.now a.1.0.now a.1.1.0.now a.1.1.1.0.now a.1.1.1.1.0.now)))));
      })
  lodge_says = refl

  -- docket_report(numbers, rows, buffer, place)
  pub report_says : report.spec 𝓛 m run
      ≡ closing 𝓛 report.ended (λ κs a. record {
        ghost = Unit {0};
        requires = λ g. emp 𝓤;
        ensures = λ g r e. sep 𝓤 (fact 𝓤 (r ≡ report_answer a.0.now a.1.0.now a.1.1.0.now a.1.1.1.0))
            (fact 𝓤 (e.1.1.0.now ≡ report_bytes a.0.now a.1.0.now a.1.1.0.now a.1.1.1.0));
      })
  report_says = refl

  -- docket_outputs(numbers, rows, outputs)
  pub outputs_say : outputs.spec 𝓛 m run
      ≡ closing 𝓛 outputs.ended (λ κs a. record {
        ghost = Unit {0};
        requires = λ g. emp 𝓤;
        ensures = λ g r e. sep 𝓤 (fact 𝓤 (r ≡ outputs_answer a.0.now a.1.0.now a.1.1.0.now))
            (fact 𝓤 (e.1.1.0.now ≡ outputs_rows a.0.now a.1.0.now a.1.1.0.now));
      })
  outputs_say = refl

  -- docket_units_taken(numbers, rows, period, most, fixed, taken)
  pub units_taken_says : units_taken.spec 𝓛 m run
      ≡ closing 𝓛 units_taken.ended (λ κs a. record {
        ghost = Unit {0};
        requires = λ g. emp 𝓤;
        ensures = λ g r e. sep 𝓤 (fact 𝓤 (r ≡ taken_answer a.0.now a.1.0.now a.1.1.0 a.1.1.1.0 a.1.1.1.1.0.now a.1.1.1.1.1.0.now))
            (fact 𝓤 (e.1.1.1.1.1.0.now ≡ taken_numbers a.0.now a.1.0.now a.1.1.0 a.1.1.1.0 a.1.1.1.1.0.now a.1.1.1.1.1.0.now));
      })
  units_taken_says = refl

  -- docket_cheapest_runs(numbers, rows, q, s, fixed, runs, short, value)
  pub cheapest_runs_says : cheapest_runs.spec 𝓛 m run
      ≡ closing 𝓛 cheapest_runs.ended (λ κs a. record {
        ghost = Unit {0};
        requires = λ g. emp 𝓤;
        ensures = λ g r e.
            let v = a.0.now in
            let w = a.1.0.now in
            let q = a.1.1.0.now in
            let s = a.1.1.1.0.now in
            let fixed = a.1.1.1.1.0.now in
            let runs = a.1.1.1.1.1.0.now in
            let short = a.1.1.1.1.1.1.0.now in
            let value = a.1.1.1.1.1.1.1.0.now in
            sep 𝓤 (fact 𝓤 (r ≡ runs_answer v w q s fixed runs short value))
            (sep 𝓤 (fact 𝓤 (e.1.1.1.1.1.0.now ≡ runs_rows v w q s fixed runs short value))
            (sep 𝓤 (fact 𝓤 (e.1.1.1.1.1.1.0.now ≡ runs_short v w q s fixed runs short value))
            (fact 𝓤 (e.1.1.1.1.1.1.1.0.now ≡ runs_value v w q s fixed runs short value))));
      })
  cheapest_runs_says = refl

  -- docket_forced_statuses(numbers, rows, q, s, fixed, values, stuck)
  pub forced_statuses_says : forced_statuses.spec 𝓛 m run
      ≡ closing 𝓛 forced_statuses.ended (λ κs a. record {
        ghost = Unit {0};
        requires = λ g. emp 𝓤;
        ensures = λ g r e.
            let v = a.0.now in
            let w = a.1.0.now in
            let q = a.1.1.0.now in
            let s = a.1.1.1.0.now in
            let fixed = a.1.1.1.1.0.now in
            let values = a.1.1.1.1.1.0.now in
            let stuck = a.1.1.1.1.1.1.0.now in
            sep 𝓤 (fact 𝓤 (r ≡ forced_answer v w q s fixed values stuck))
            (sep 𝓤 (fact 𝓤 (e.1.1.1.1.1.0.now ≡ forced_values v w q s fixed values stuck))
            (fact 𝓤 (e.1.1.1.1.1.1.0.now ≡ forced_stuck v w q s fixed values stuck)));
      })
  forced_statuses_says = refl

  -- docket_listing(input, output)
  pub listing_says : listing.spec 𝓛 m run
      ≡ closing 𝓛 listing.ended (λ κs a. record {
        ghost = Unit {0};
        requires = λ g. emp 𝓤;
        ensures = λ g r e. sep 𝓤 (fact 𝓤 (r ≡ host_answer (listed_of a.0.now a.1.0.now))) (fact 𝓤 (e.1.0.now ≡ output_of a.0.now a.1.0.now));
      })
  listing_says = refl
