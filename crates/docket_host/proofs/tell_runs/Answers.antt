-- `tell_runs` meets its contract: the value is stored only where the runs were found.
use mathlib.Core.Path.{◌≡◌, sym, ap, subst, ◌∙◌}
use mathlib.Core.List.{[], ◌∷◌}
use native.Mathlib.Omega.{arith}
use borrow.Author.Rules.{rules}
use mir.Syntax.{w64}
use mir.Val.{to_z, of_z}
use lib.IntN.{ℤ}
use Rattle.std.specs.Prelude.{Result}
use Rattle.runs.specs.declared.drafting.NoRuns.{NoRuns}
use Rattle.docket_host.specs.Calls.{value_told}
use Rattle.docket_host.proofs.RunsCalls.{one_stored}
use Rattle.docket_host.proofs.tell_runs.Goals as goal

pub returns-in-Ok-clause-value : goal.returns-in-Ok-clause-value
returns-in-Ok-clause-value c =
    let a = c.args in
    let z = c.in-Ok.found in
    let same : to_z w64 (of_z w64 z) ≡ z = search rules in
    one_stored a.value.now _ c.requires.value_len ∙ ap (λ (x : ℤ). x ∷ []) same ∙ sym (ap (λ (x : Result ℤ NoRuns). value_told x a.value.now) c.in-Ok.is)
