-- One law for each way out: too few bytes from the place on, room.
use Rattle.std.proofs.Common.{◌+◌, ◌≤◌, length, Ok, Err, sym, ap, ◌∙◌, arith}
use Rattle.report.specs.Report.{report_lines}
use Rattle.report.proofs.Lines.{report_least}
use Rattle.report.proofs.Places.{no_room, with_room, in_part}
use Rattle.report.proofs.write_report.Goals as goal

pub returns-then-saturating_sub-lines_width : goal.returns-then-saturating_sub-lines_width
returns-then-saturating_sub-lines_width c =
    let a = c.args in
    let n = no_room a.buffer.now a.k (report_lines a.f) (omega (arith, c.lines_width.ensures.value)) in
    record { answer = ap Err c.refuse.ensures ∙ sym n.0; bytes = sym n.1 }

pub slice_bounds-write_lines-count : goal.slice_bounds-write_lines-count
slice_bounds-write_lines-count c = omega (arith, c.lines_width.ensures.value, report_least c.args.f)

pub slice_bounds-write_lines-start : goal.slice_bounds-write_lines-start
slice_bounds-write_lines-start c = omega (arith, c.lines_width.ensures.value, report_least c.args.f)

pub returns : goal.returns
returns c =
    let a = c.args in
    let p = c.write_lines in
    let h : a.k + length (report_lines a.f) ≤ length a.buffer.now = omega (arith, c.lines_width.ensures.value, report_least a.f) in
    record {
      answer = ap Ok p.ensures.value ∙ sym (with_room a.buffer.now a.k (report_lines a.f) h).0;
      bytes = in_part a.buffer.now a.k (report_lines a.f) h p.new.buf p.ensures.buf_after;
    }
