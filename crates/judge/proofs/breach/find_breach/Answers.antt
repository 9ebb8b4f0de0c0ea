use mathlib.Core.Path.{◌≡◌, refl, sym, ap, ◌∙◌}
use Prim.Native.Nat.{◌+◌, ◌-◌, ◌*◌}
use native.Mathlib.Nat.{not-suc-le-zero}
use native.Mathlib.Omega.{arith}
use borrow.Author.Count.{below_more}
use borrow.Author.Rules.{rules}
use lib.ListN.{length}
use Rattle.model.specs.Held.{view}
use Rattle.judge.specs.Judgement.{place_found}
use Rattle.judge.specs.Rule.{broken_by}
use Rattle.judge.proofs.Units.{periods_most, part_within, part_long, unit_good}
use Rattle.judge.proofs.Search.{search_found, search_ends}
use Rattle.judge.proofs.breach.find_breach.Goals as goal

pub loop-u-init : goal.loop-u-init
loop-u-init c = (refl, λ j h. absurd (not-suc-le-zero h))

pub search-init : goal.search-init
search-init c = (refl, λ k h. absurd (not-suc-le-zero h))

pub overflow_mul-from : goal.overflow_mul-from
overflow_mul-from c =
    omega (arith, part_within c.args.problem c.args.rows.now c.requires c.loop-u.u (omega arith))

pub invariant_of-unit : goal.invariant_of-unit
invariant_of-unit c =
    let many : length c.args.problem.generators ≡ 32 = search rules in
    record { good = unit_good c.args.problem c.args.rows.now c.requires many c.loop-u.u c.loop-u-test.true }

pub breaks-requires : goal.breaks-requires
breaks-requires c =
    let p = c.args.problem in
    let u = c.loop-u.u in
    let e : u * p.periods + p.periods - u * p.periods ≡ p.periods = omega arith in
    let n = part_long p c.args.rows.now c.requires u c.loop-u-test.true in
    rw e (omega arith, omega (arith, periods_most p c.args.rows.now c.requires))

pub loop-u-preserved : goal.loop-u-preserved
loop-u-preserved c =
    let l = c.loop-u in
    let T = c.args.problem.periods in
    let e : l.u * T + T - l.u * T ≡ T = omega arith in
    (l.invariant.0, below_more _ l.u l.invariant.1 (sym (rw e at c.breaks.ensures) ∙ c.if-breaks.false))

pub search-preserved : goal.search-preserved
search-preserved c =
    let inner = c.loop-u in
    let outer = c.search in
    (inner.invariant.0 ∙ outer.invariant.0, below_more _ outer.t outer.invariant.1 (λ j h. inner.invariant.1 j (omega arith)))

pub returns-after-search : goal.returns-after-search
unfolding view
returns-after-search c =
    let l = c.search in
    let many : length c.args.problem.generators ≡ 32 = search rules in
    l.invariant.0 ∙ sym (ap place_found (search_ends (broken_by c.args.rule) c.args.problem c.args.rows.now c.requires many (λ k h. l.invariant.1 k (omega arith))))

pub returns-then-breaks : goal.returns-then-breaks
unfolding view
returns-then-breaks c =
    let l = c.loop-u in
    let o = c.search in
    let T = c.args.problem.periods in
    let e : l.u * T + T - l.u * T ≡ T = omega arith in
    let many : length c.args.problem.generators ≡ 32 = search rules in
    sym (ap place_found (search_found (broken_by c.args.rule) c.args.problem c.args.rows.now c.requires many o.t l.u
    c.search-test.true c.loop-u-test.true
    o.invariant.1 l.invariant.1 (sym (rw e at c.breaks.ensures) ∙ c.if-breaks.true)))
