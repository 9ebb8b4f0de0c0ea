use Rattle.std.proofs.Common.{arith}
use Rattle.report.proofs.Lines.{report_least}
use Rattle.report.proofs.Stages.{figures_room, end_room, all_many, all_written}
use Rattle.report.proofs.write_lines.Goals as goal

pub write_bytes-n-requires : goal.write_bytes-n-requires
write_bytes-n-requires c = omega (arith, c.requires, report_least c.args.f)

pub write_shown-requires : goal.write_shown-requires
write_shown-requires c =
    let k = c.write_bytes-n in
    figures_room c.args.f c.args.buf.now k.new.buf k.result c.requires k.ensures.value k.ensures.buf_after

pub write_bytes-requires : goal.write_bytes-requires
write_bytes-requires c =
    let k = c.write_bytes-n in
    let s = c.write_shown in
    end_room c.args.f c.args.buf.now k.new.buf k.result c.requires k.ensures.value k.ensures.buf_after s.new.buf s.result s.ensures.value s.ensures.buf_after

pub returns : goal.returns
returns c =
    let k = c.write_bytes-n in
    let s = c.write_shown in
    let e = c.write_bytes in
    record {
      value = all_many c.args.f c.args.buf.now k.new.buf k.result c.requires k.ensures.value k.ensures.buf_after s.new.buf s.result s.ensures.value s.ensures.buf_after e.result e.ensures.value;
      buf_after = all_written c.args.f c.args.buf.now k.new.buf k.result c.requires k.ensures.value k.ensures.buf_after s.new.buf s.result s.ensures.value s.ensures.buf_after e.new.buf e.ensures.buf_after;
    }
