-- `generators_in` meets its contract: each is read from its place.
use Rattle.std.proofs.Common.{◌≡◌, ◌∙◌, ◌+◌, ◌*◌, sym, ap, arith}
use lib.ListN.{get_or, replicate, length-replicate}
use lib.Seq.{take_all}
use Rattle.model.specs.Held.{blank_generator}
use Rattle.layout.specs.Numbers.{generator_of, generators_in}
use Rattle.layout.proofs.Readings.{from_whole, generators_long, generators_at}
use Rattle.layout.proofs.Overlays.{overlay_more, overlay_end}
use Rattle.layout.proofs.reading.generators_in.Goals as goal

pub loop-u-preserved : goal.loop-u-preserved
loop-u-preserved c =
    let v = c.args.numbers.now in
    let u = c.loop-u.u in
    let gs = generators_in v 0 32 in
    let e : c.generator_of.result ≡ get_or gs u blank_generator =
    c.generator_of.ensures ∙ ap generator_of (from_whole v (98 + u * 16)) ∙ sym (generators_at v 32 u c.loop-u-test.true) in
    let more =
    overlay_more (replicate 32 blank_generator) gs u blank_generator (omega (arith, generators_long v 0 32)) (omega (arith, length-replicate 32 blank_generator)) in
    rw (e, c.loop-u.invariant) more

pub returns : goal.returns
returns c =
    let v = c.args.numbers.now in
    let gs = generators_in v 0 32 in
    c.loop-u.invariant ∙ overlay_end 32 blank_generator gs c.loop-u.u (omega arith) ∙ take_all 32 gs (omega (arith, generators_long v 0 32))
