-- What demand 3 leaves of a list is decided by what its texts are: the verdicts are proper, and the docket is the one that they determine.
use mathlib.Core.Path.{◌≡◌, refl, subst}
use mathlib.Core.List.{List, []}
use mathlib.Core.Option.{none}
use Prim.Native.Nat.{ℕ}
use Rattle.docket.specs.Verdicts.{Verdict, known_at_end}
use Rattle.docket.specs.Texts.{Are}
use Rattle.docket.specs.Demand3.{reached, Lodging, Reporting, Writing, Demand3}
use Rattle.docket.proofs.ListVerdicts.{are_verdicts}
use Rattle.docket.proofs.GoodVerdicts.{Proper}
use Rattle.docket.proofs.Reached.{docket_of}
use Rattle.docket.proofs.Lists.{lodges}
use Rattle.docket.proofs.Demand3.{holding}
use Rattle.docket.proofs.Determined.{holding_one, holds_then}

-- what the verdicts of a list promise
pub proper_then : (texts : List (List ℕ)) (vs : List Verdict) → Are none texts vs → Proper (known_at_end none vs) vs
proper_then texts vs are =
    subst (λ (us : List Verdict). Proper (known_at_end none us) us) (are_verdicts none texts vs tt are) (lodges none [] (refl, refl) texts).proper

module _ (lodge : Lodging) {report : Reporting} {buffer : Writing} (D : Demand3 lodge report buffer) (texts : List (List ℕ)) (vs : List Verdict) (are : Are none texts vs) where
  pub reached_is : reached lodge texts ≡ docket_of (known_at_end none vs) vs
  reached_is =
      holding_one (known_at_end none vs) vs (reached lodge texts) (docket_of (known_at_end none vs) vs) (holds_then lodge D texts vs are)
      (holding (known_at_end none vs) vs (proper_then texts vs are))
