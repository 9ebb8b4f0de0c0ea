use Rattle.answer.proofs.InTurn.{passed_more, passed_all}
use Rattle.answer.proofs.write_ending.Goals as goal

pub loop-f-preserved : goal.loop-f-preserved
loop-f-preserved c =
    let l = c.loop-f in
    let w = c.write_value-n in
    passed_more c.args.figures.now l.f-index c.args.buf.now l.buf l.n l.invariant _ w.result w.new.buf c.loop-f-test.true w.ensures.value w.ensures.buf_after

pub returns-clause-buf_after : goal.returns-clause-buf_after
returns-clause-buf_after c =
    let l = c.loop-f in
    passed_all c.args.figures.now l.f-index c.args.buf.now l.buf l.n l.invariant c.loop-f-test.false c.requires
