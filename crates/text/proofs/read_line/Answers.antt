-- `read_line` meets its contract: the row of a good line holds its numbers, that of a refused one zeros.
use native.Mathlib.Omega.{arith}
use mathlib.Core.Path.{◌≡◌, sym, ◌∙◌}
use lib.ListN.{length, replicate, length-replicate, length-take}
use lib.Seq.{length-take-le}
use Prim.Native.Nat.{ℕ, ◌≤◌}
use Rattle.text.specs.Lines.{line_at}
use Rattle.text.specs.Forms.{form, numbers_of, verdict_of}
use Rattle.text.proofs.Rows.{verdict_is, good_held}
use Rattle.text.proofs.Verdicts.{refused_row, ruled_good, good_row}
use Rattle.text.proofs.Accepted.{good_rendered}
use Rattle.text.proofs.Plain.{pad_48_is}
use Rattle.std.proofs.lemmas.Result.{err_from_is_err_and}
use Rattle.text.proofs.read_line.Goals as goal
use Rattle.text.proofs.read_line.Tie as tie
use Rattle.text.proofs.read_line.Reads as reads
use Rattle.text.proofs.read_line.Lts as lts

room : (n : ℕ) → n ≤ 48 → n ≤ length (replicate {A = ℕ} 48 0)
room n h = omega (arith, length-replicate {A = ℕ} 48 0)

-- the verdict is that of the line
verdict : (c : lts.After-judge_values tie.the-claims reads.Pre reads.Post tie.handed_clauses) →
    let a = c.args in
    c.judge_values.result ≡ verdict_of (form a.key.now a.signed a.lows.now a.highs.now) (line_at a.s.now a.at) a.at
verdict c =
    let a = c.args in
    let v = c.read_keyed-read.ensures in
    c.judge_values.ensures ∙ verdict_is (form a.key.now a.signed a.lows.now a.highs.now) a.s.now (replicate 48 0) a.at c.requires.0 c.requires.1.1.1 (room _ c.requires.1.0) v.answer v.stored c.all_within-within.ensures

pub slice_bounds-all_within-end : goal.slice_bounds-all_within-end
slice_bounds-all_within-end c =
    let v = c.read_keyed-read in
    sym (length-take-le (length c.args.lows.now) v.new.out (omega (arith, v.auto, c.requires.1.0)))

pub all_within-within-requires : goal.all_within-within-requires
all_within-within-requires c =
    let e = length-take (length c.args.lows.now) c.read_keyed-read.new.out in
    (omega (arith, e), omega (arith, e, c.requires.1.1.0))

pub returns-in_err-next : goal.returns-in_err-next
returns-in_err-next c =
    let a = c.args in
    let p = err_from_is_err_and c.from_residual.result c.from_residual.ensures.1 in
    rw (p.1, p.2) (refused_row (form a.key.now a.signed a.lows.now a.highs.now) (line_at a.s.now a.at) a.at c.judge_values.result (verdict c.before.before.before.before) _ c.in_err-next.was)

pub returns : goal.returns
returns c =
    let a = c.args in
    let f = form a.key.now a.signed a.lows.now a.highs.now in
    let l = line_at a.s.now a.at in
    let v = c.read_keyed-read.ensures in
    let is = verdict c.before.before.before.before in
    let g = (ruled_good f l a.at c.judge_values.result is c.in_ok-next.next c.in_ok-next.was).0 in
    let h = good_held f a.s.now (replicate 48 0) a.at c.requires.0 c.requires.1.1.1 (room _ c.requires.1.0) v.answer v.stored g in
    good_row f l a.at c.judge_values.result is c.in_ok-next.next c.in_ok-next.was _ (c.has_minus.ensures ∙ h.minus) _
    (h.values ∙ pad_48_is (numbers_of f l) (length a.lows.now) (good_rendered f l g).fits.count)
