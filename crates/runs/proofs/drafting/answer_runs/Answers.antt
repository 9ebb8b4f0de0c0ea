-- `answer_runs` meets its contract: whether the question fits decides.
use mathlib.Core.Path.{◌≡◌, sym, ap, subst, ◌∙◌}
use Prim.Native.Nat.{ℕ}
use native.Mathlib.Omega.{arith}
use lib.ListN.{length}
use lib.Seq.{length-take-le}
use Rattle.model.specs.Instance.{Instance}
use Rattle.model.specs.Held.{view}
use Rattle.layout.specs.Numbers.{instance_in}
use Rattle.runs.specs.Drafts.{Drafted, fits_in, fits, drafted}
use Rattle.runs.proofs.Drafts.{Drafts, fit_drafted, unfit_drafted}
use Rattle.runs.proofs.drafting.answer_runs.Goals as goal
use Rattle.runs.proofs.drafting.answer_runs.Tie as tie
use Rattle.runs.proofs.drafting.answer_runs.Reads as reads
use Rattle.runs.proofs.drafting.answer_runs.Lts as lts

-- the problem has as many units as its array says
units_are : (s : lts.Start tie.the-claims reads.Pre reads.Post tie.handed_clauses) → s.args.problem.units ≡ length (view s.args.problem).units
unfolding view
units_are s =
    let long : length s.args.problem.generators ≡ 32 = s.well_formed.0.1.1.1.1.1.1.0.1.0.1 in
    sym (length-take-le s.args.problem.units s.args.problem.generators (omega (arith, s.requires.units_fit, long)))

-- the test is the question's
fits_by : (c : lts.After-is_fit tie.the-claims reads.Pre reads.Post tie.handed_clauses) →
    let a = c.args in
    c.is_fit-fits.result ≡ fits (view a.problem) a.q.now a.s.now a.fixed.now (length a.rows.now) (length a.short.now)
unfolding view
fits_by c =
    let a = c.args in
    c.is_fit-fits.ensures
    ∙ ap (λ (I : ℕ). fits_in a.problem.periods I a.q.now a.s.now a.fixed.now (length a.rows.now) (length a.short.now)) (units_are c.before.before.before.before.before.before)

pub is_fit-fits-requires : goal.is_fit-fits-requires
unfolding view
is_fit-fits-requires c = (c.requires.well_formed.periods_in.1, c.requires.units_fit)

pub draft-requires : goal.draft-requires
draft-requires c =
    let a = c.args in
    ap (λ (P : Instance). fits P a.q.now a.s.now a.fixed.now (length a.rows.now) (length a.short.now)) (ap instance_in c.of.ensures ∙ c.lay_out_ranked-numbers.ensures.read.1)
    ∙ sym (fits_by c.before.before.before.before.before.before.before) ∙ c.if-not-fits.false

pub returns : goal.returns
returns c =
    let a = c.args in
    let P = view a.problem in
    let e = ap (λ (P : Instance). drafted P a.q.now a.s.now a.fixed.now a.rows.now a.short.now) (ap instance_in c.of.ensures ∙ c.lay_out_ranked-numbers.ensures.read.1)
    ∙ fit_drafted P a.q.now a.s.now a.fixed.now a.rows.now a.short.now (sym (fits_by c.before.before.before.before.before.before.before.before.before.before.before.before) ∙ c.if-not-fits.false) in
    let whole = subst (λ (x : Drafted). Drafts c.draft.result c.draft.new.rows c.draft.new.short x) e (c.draft.ensures.answer, (c.draft.ensures.rows, c.draft.ensures.short)) in record { answer = whole.0; rows = whole.1.0; short = whole.1.1 }

pub returns-then-not-fits : goal.returns-then-not-fits
returns-then-not-fits c =
    let a = c.args in
    let e = unfit_drafted (view a.problem) a.q.now a.s.now a.fixed.now a.rows.now a.short.now (sym (fits_by c.before.before) ∙ c.if-not-fits.true) in
    record { answer = ap (λ (x : Drafted). x.answer) e; rows = ap (λ (x : Drafted). x.rows) e; short = ap (λ (x : Drafted). x.short) e }
