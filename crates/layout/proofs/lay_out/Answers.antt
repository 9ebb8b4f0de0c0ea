use mathlib.Core.Path.{◌≡◌}
use native.Mathlib.Omega.{arith}
use borrow.Author.Rules.{rules}
use lib.ListN.{length}
use Rattle.layout.proofs.Stored.{begun_none, begun_more, begun_all}
use Rattle.layout.proofs.lay_out.Goals as goal

pub loop-u-init : goal.loop-u-init
loop-u-init c =
    let long : length c.store-2.new.numbers ≡ 610 = search rules in
    (long, begun_none c.store-2.new.numbers c.args.problem.generators (omega (arith, long)))

pub loop-u-preserved : goal.loop-u-preserved
loop-u-preserved c =
    let long : length c.store-2.new.numbers ≡ 610 = search rules in
    let same : length c.store-in-loop-u.new.numbers ≡ 610 = search rules in
    let many : length c.args.problem.generators ≡ 32 = search rules in (
      same,
      begun_more c.store-2.new.numbers c.args.problem.generators (omega (arith, long)) _ _ _ c.loop-u.u (omega (arith, many, c.loop-u-test.true))
          c.loop-u.invariant.1 c.generator_numbers-values.ensures c.store-in-loop-u.ensures,
    )

pub returns : goal.returns
returns c =
    let long : length c.store-2.new.numbers ≡ 610 = search rules in
    let demand : length c.args.problem.demand ≡ 48 = search rules in
    let spare : length c.args.problem.spare ≡ 48 = search rules in
    let many : length c.args.problem.generators ≡ 32 = search rules in
    begun_all c.args.problem demand spare many _ _ c.store.ensures c.store-2.ensures c.loop-u.numbers c.loop-u.u
    (omega (arith, many, c.loop-u-test.false)) long c.loop-u.invariant.1
