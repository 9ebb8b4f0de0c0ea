-- Asking for the entries of forced statuses: what comes back, and that what is lent stays where nothing was found.
use mathlib.Core.Path.{◌≡◌, refl, sym, ap, subst, ◌∙◌}
use mathlib.Core.Bool.{true, false}
use mathlib.Core.List.{List}
use Prim.Native.Nat.{ℕ, ◌≤◌}
use native.Mathlib.Omega.{arith}
use lib.IntN.{ℤ}
use Rattle.std.specs.Prelude.{Result, Ok, Err}
use Rattle.runs.specs.declared.question.Unanswered.{Unanswered}
use Rattle.runs.specs.declared.question.Unanswered.TheVariants.{NoProblem, Unfit}
use Rattle.forced.specs.Answers.{Told}
use Rattle.docket.specs.declared.Docket.{Docket}
use Rattle.docket.specs.Forcing.{forced_of}
use Rattle.state.specs.Layout.{docket_in}
use Rattle.state.specs.Kept.{long, holds}
use Rattle.docket_host.specs.HostAnswer.{too_little_room}
use Rattle.docket_host.specs.Calls.{no_docket, forced_number, forced_there, forced_answer, forced_values, forced_stuck, Forces}

module _ (v w q s fixed : List ℕ) (values : List ℤ) (stuck : List ℕ) where
  pub forced_small : long v w ≡ false → Forces v w q s fixed values stuck too_little_room values stuck
  unfolding forced_answer forced_values forced_stuck
  forced_small e = (rw e refl, (rw e refl, rw e refl))

  pub forced_empty : long v w ≡ true → holds v w ≡ false → Forces v w q s fixed values stuck no_docket values stuck
  unfolding forced_answer forced_values forced_stuck
  forced_empty e i = (rw (e, i) refl, (rw (e, i) refl, rw (e, i) refl))

  module _ (e : long v w ≡ true) (i : holds v w ≡ true) where
    abbrev there : Told
    there = forced_there v w q s fixed values stuck

    pub forced_by : Forces v w q s fixed values stuck (forced_number there.answer) there.values there.stuck
    unfolding forced_answer forced_values forced_stuck
    forced_by = (rw (e, i) refl, (rw (e, i) refl, rw (e, i) refl))

    -- as the docket tells
    pub forced_done : (d : Docket) → d ≡ docket_in v w → (a : Result (Unit {0}) Unanswered) → a ≡ (forced_of d q s fixed values stuck).answer
        → (values' : List ℤ) → values' ≡ (forced_of d q s fixed values stuck).values → (stuck' : List ℕ) → stuck' ≡ (forced_of d q s fixed values stuck).stuck
        → (r : ℕ) → r ≡ forced_number a → Forces v w q s fixed values stuck r values' stuck'
    forced_done d ed a ea values' ev stuck' es r en =
        let x : Told = forced_of d q s fixed values stuck in
        let k : x ≡ there = ap (λ (y : Docket). forced_of y q s fixed values stuck) ed in
        let t = subst (λ (y : Told). Forces v w q s fixed values stuck (forced_number y.answer) y.values y.stuck) (sym k) forced_by in
        (en ∙ ap forced_number ea ∙ t.0, (ev ∙ t.1.0, es ∙ t.1.1))

    -- none of what is told is one of the two numbers
    pub forced_apart : forced_answer v w q s fixed values stuck ≤ 2
    forced_apart = omega (arith, forced_by.0, at_most there.answer)
      where
        at_most : (a : Result (Unit {0}) Unanswered) → forced_number a ≤ 2
        at_most (Ok u) = omega arith
        at_most (Err NoProblem) = omega arith
        at_most (Err Unfit) = omega arith
