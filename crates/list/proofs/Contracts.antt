-- What the theorem of the listing says: its contract, whole. Nothing is asked of the caller, and what comes back and what the lent output then holds are
-- those of the definitions. A contract that said less would not be equal to this.
use mathlib.Core.Path.{◌≡◌, refl}
use seplogic.Ra.Ura.{Ura}
use base.Logic.{SProp, emp, sep}
use prog.Memory.{Memory}
use prog.Routine.{Routine}
use contract.Monad.{Fun, fact}
use denote.Triple.Clauses.{closing}
use types.Logic.{Logic}
use Rattle.list.specs.Listing.{listed_of, output_of}
use Rattle.list.specs.contracts.list as list

module _ {M : Type 1} {𝓤 : Ura M} (𝓛 : Logic 𝓤) (m : Memory → SProp 𝓤) (run : Routine → Fun 𝓤) where
  -- list(input, output): the answer, and the output
  pub list_says : list.spec 𝓛 m run
      ≡ closing 𝓛 list.ended (λ κs a. record {
        ghost = Unit {0};
        requires = λ g. emp 𝓤;
        ensures = λ g r e. sep 𝓤 (fact 𝓤 (r ≡ listed_of a.0.now a.1.0.now))
            (fact 𝓤 (e.1.0.now ≡ output_of a.0.now a.1.0.now));
      })
  list_says = refl
