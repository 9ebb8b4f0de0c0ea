-- `answer_forced` meets its contract: whether the question fits decides.
use mathlib.Core.Path.{◌≡◌, sym, ap, ◌∙◌}
use Prim.Native.Nat.{ℕ}
use native.Mathlib.Omega.{arith}
use lib.ListN.{length}
use lib.Seq.{length-take-le}
use Rattle.model.specs.Instance.{Instance}
use Rattle.model.specs.Held.{view}
use Rattle.layout.specs.Numbers.{instance_in}
use Rattle.forced.specs.Answers.{Told, fits_in, fits}
use Rattle.forced.proofs.Answers.{fit_limits, found, fit_told, unfit_told}
use Rattle.forced.proofs.answering.answer_forced.Goals as goal
use Rattle.forced.proofs.answering.answer_forced.Tie as tie
use Rattle.forced.proofs.answering.answer_forced.Reads as reads
use Rattle.forced.proofs.answering.answer_forced.Lts as lts

-- the problem has as many units as its array says
units_are : (s : lts.Start tie.the-claims reads.Pre reads.Post tie.handed_clauses) → s.args.problem.units ≡ length (view s.args.problem).units
unfolding view
units_are s =
    let long : length s.args.problem.generators ≡ 32 = s.well_formed.0.1.1.1.1.1.1.0.1.0.1 in
    sym (length-take-le s.args.problem.units s.args.problem.generators (omega (arith, s.requires.units_fit, long)))

-- the test is the question's
fits_by : (c : lts.After-is_fit tie.the-claims reads.Pre reads.Post tie.handed_clauses) →
    let a = c.args in
    c.is_fit-fits.result ≡ fits (view a.problem) a.q.now a.s.now a.fixed.now (length a.values.now) (length a.stuck.now)
unfolding view
fits_by c =
    let a = c.args in
    c.is_fit-fits.ensures
    ∙ ap (λ (I : ℕ). fits_in a.problem.periods I a.q.now a.s.now a.fixed.now (length a.values.now) (length a.stuck.now)) (units_are c.before.before.before.before.before)

pub is_fit-fits-requires : goal.is_fit-fits-requires
unfolding view
is_fit-fits-requires c = (c.requires.well_formed.periods_in.1, c.requires.units_fit)

pub write_forced-requires : goal.write_forced-requires
write_forced-requires c =
    let a = c.args in
    let rest = fit_limits _ a.q.now a.s.now a.fixed.now c.of.result.laid.well_formed (length a.values.now) (length a.stuck.now)
    (ap (λ (P : Instance). fits P a.q.now a.s.now a.fixed.now (length a.values.now) (length a.stuck.now)) (ap instance_in c.of.ensures ∙ c.lay_out_ranked-numbers.ensures.read.1) ∙ sym (fits_by c.before.before.before.before.before.before.before) ∙ c.if-not-fits.false) in
    record { good_prices = rest.0; numbers_in_bounds = rest.1.0; values_len = rest.1.1 }

pub returns : goal.returns
returns c =
    let a = c.args in
    let e = ap (λ (P : Instance). found P a.q.now a.s.now a.fixed.now) (ap instance_in c.of.ensures ∙ c.lay_out_ranked-numbers.ensures.read.1)
    ∙ fit_told (view a.problem) a.q.now a.s.now a.fixed.now a.values.now a.stuck.now (sym (fits_by c.before.before.before.before.before.before.before.before.before.before.before) ∙ c.if-not-fits.false) in
    record { answer = ap (λ (x : Told). x.answer) e; values = c.write_forced.ensures.values ∙ ap (λ (x : Told). x.values) e; stuck = c.write_forced.ensures.stuck ∙ ap (λ (x : Told). x.stuck) e }

pub returns-then-not-fits : goal.returns-then-not-fits
returns-then-not-fits c =
    let a = c.args in
    let e = unfit_told (view a.problem) a.q.now a.s.now a.fixed.now a.values.now a.stuck.now (sym (fits_by c.before.before) ∙ c.if-not-fits.true) in
    record { answer = ap (λ (x : Told). x.answer) e; values = ap (λ (x : Told). x.values) e; stuck = ap (λ (x : Told). x.stuck) e }
