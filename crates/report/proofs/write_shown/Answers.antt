use Rattle.report.proofs.Stages.{passed_room, passed_more, passed_all}
use Rattle.report.proofs.write_shown.Goals as goal

pub write_line-n-requires : goal.write_line-n-requires
write_line-n-requires c =
    let l = c.loop-key in
    passed_room c.args.shown.now l.key-index c.args.buf.now l.buf l.n l.invariant _ c.loop-key-test.true c.requires

pub loop-key-preserved : goal.loop-key-preserved
loop-key-preserved c =
    let l = c.loop-key in
    let w = c.write_line-n in
    passed_more c.args.shown.now l.key-index c.args.buf.now l.buf l.n l.invariant _ c.loop-key-test.true w.result w.new.buf w.ensures.value w.ensures.buf_after

pub returns : goal.returns
returns c =
    let l = c.loop-key in
    let p = passed_all c.args.shown.now l.key-index c.args.buf.now l.buf l.n l.invariant c.loop-key-test.false in
    record { value = p.0; buf_after = p.1 }
