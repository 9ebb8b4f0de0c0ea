-- `answer_taken` meets its contract: whether the question fits decides.
use mathlib.Core.Path.{◌≡◌, sym, ap, ◌∙◌}
use mathlib.Core.Bool.{Bool, cond}
use Prim.Native.Nat.{ℕ, ◌-◌}
use native.Mathlib.Omega.{arith}
use lib.ListN.{length}
use lib.Seq.{length-take-le}
use Rattle.model.specs.Held.{view}
use Rattle.std.specs.Prelude.{Ok, Err}
use Rattle.runs.specs.declared.question.Unanswered.TheVariants.{Unfit}
use Rattle.leaves.specs.LeafLeasts.{taken_in}
use Rattle.docket.specs.Taking.{fits_in, fits, asked, taken_under}
use Rattle.docket.proofs.taking.answer_taken.Goals as goal
use Rattle.docket.proofs.taking.answer_taken.Tie as tie
use Rattle.docket.proofs.taking.answer_taken.Reads as reads
use Rattle.docket.proofs.taking.answer_taken.Lts as lts

-- the problem has as many units as its array says
units_are : (s : lts.Start tie.the-claims reads.Pre reads.Post tie.handed_clauses) → s.args.problem.units ≡ length (view s.args.problem).units
unfolding view
units_are s =
    let long : length s.args.problem.generators ≡ 32 = s.well_formed.0.1.1.1.1.1.1.0.1.0.1 in
    sym (length-take-le s.args.problem.units s.args.problem.generators (omega (arith, s.requires.units_fit, long)))

-- the test is the question's
fits_by : (c : lts.After-is_fit tie.the-claims reads.Pre reads.Post tie.handed_clauses) → let a = c.args in c.is_fit.result ≡ fits (view a.problem) a.period a.most a.fixed.now
unfolding view
fits_by c =
    let a = c.args in
    c.is_fit.ensures ∙ ap (λ (I : ℕ). fits_in a.problem.periods I a.period a.most a.fixed.now) (units_are c.before.before)

pub is_fit-requires-clause-periods_bound : goal.is_fit-requires-clause-periods_bound
unfolding view
is_fit-requires-clause-periods_bound c = c.requires.well_formed.periods_in.1

pub take_units-requires-clause-fixed_value : goal.take_units-requires-clause-fixed_value
take_units-requires-clause-fixed_value c = sym (fits_by c.before.before) ∙ c.if-not-is_fit.false

pub returns : goal.returns
unfolding taken_under
returns c =
    let a = c.args in
    let P = view a.problem in
    let e = sym c.if-not-is_fit.false ∙ fits_by c.before.before.before in
    ap Ok c.take_units.ensures ∙ ap (λ (b : Bool). cond b (Ok (taken_in P (asked P (a.period - 1) a.most a.fixed.now) (a.period - 1))) (Err Unfit)) e

pub returns-then-not-is_fit : goal.returns-then-not-is_fit
unfolding taken_under
returns-then-not-is_fit c =
    let a = c.args in
    let P = view a.problem in
    ap (λ (b : Bool). cond b (Ok (taken_in P (asked P (a.period - 1) a.most a.fixed.now) (a.period - 1))) (Err Unfit)) (sym c.if-not-is_fit.true ∙ fits_by c.before.before)
