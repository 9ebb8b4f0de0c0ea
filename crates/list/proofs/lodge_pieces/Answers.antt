use Prim.Native.Nat.{◌-◌, ◌≤◌, ◌<◌}
use native.Mathlib.Omega.{arith}
use mathlib.Core.Path.{◌≡◌, sym, ◌∙◌}
use lib.ListN.{length, take, drop}
use Rattle.answer.specs.declared.Answer.TheVariants.{Refused}
use Rattle.docket.specs.declared.Lodged.{Lodged}
use Rattle.docket.specs.Lodging.{lodged, lodge_of}
use Rattle.docket.proofs.HoldingAnswers.{screened_lodged}
use Rattle.list.proofs.ListedSoFar.{nothing_yet, good_so_far, before_end, Turn, turn, Done, done}
use Rattle.list.proofs.lodge_pieces.Goals as goal
use Rattle.list.proofs.lodge_pieces.Tie as tie
use Rattle.list.proofs.lodge_pieces.Reads as reads
use Rattle.list.proofs.lodge_pieces.Lts as lts

-- ---- the piece at the place
module _ (c : lts.After-piece_end tie.the-claims reads.Pre reads.Post goal.the-invariant-loop-at goal.the-decreases-loop-at tie.handed_clauses) where
  piece : (c.loop-at.at < c.piece_end-end.result) × (c.piece_end-end.result ≤ length c.args.input.now)
  piece =
      before_end c.args.input.now c.args.output.now c.requires.input_len_bound c.requires.in_bounds c.loop-at.docket c.loop-at.n c.loop-at.at c.loop-at.output c.loop-at.invariant
      c.loop-at-test.true c.piece_end-end.result c.piece_end-end.ensures

  -- what is so once the text was lodged as m, however it came to be known
  abbrev Turned : Lodged → Type 0
  Turned m =
      let a = c.args in
      Turn a.input.now a.output.now c.loop-at.n c.loop-at.output c.piece_end-end.result m

  turned : let text = take (c.piece_end-end.result - c.loop-at.at) (drop c.loop-at.at c.args.input.now) in
      (m : Lodged) → m ≡ lodge_of c.loop-at.docket text → Turned m
  turned =
      turn c.args.input.now c.args.output.now c.requires.input_len_bound c.requires.in_bounds c.loop-at.docket c.loop-at.n c.loop-at.at c.loop-at.output c.loop-at.invariant
      c.loop-at-test.true c.piece_end-end.result c.piece_end-end.ensures

-- ---- refused before its lines
module _ (c : lts.Past-After-known_told tie.the-claims reads.Pre reads.Post goal.the-invariant-loop-at goal.the-decreases-loop-at tie.handed_clauses) where
  -- as it would be if it were lodged
  as-lodged : lodged c.loop-at.docket (Refused c.in-Err.refusal)
      ≡ lodge_of c.loop-at.docket (take (c.piece_end-end.result - c.loop-at.at) (drop c.loop-at.at c.args.input.now))
  as-lodged =
      let good = good_so_far c.loop-at.invariant in
      sym (screened_lodged _ _ good _ (sym c.admit.ensures ∙ c.in-Err.is))

  refused : Turned c.before.before.before (lodged c.loop-at.docket (Refused c.in-Err.refusal))
  refused = turned c.before.before.before _ as-lodged

answered : (c : lts.After-docket tie.the-claims reads.Pre reads.Post goal.the-invariant-loop-at goal.the-decreases-loop-at tie.handed_clauses) → Turned c.before.before.before.before.before c.lodge-lodged.result
answered c = turned c.before.before.before.before.before _ c.lodge-lodged.ensures

-- ---- the report
module _ (c : lts.After-loop tie.the-claims reads.Pre reads.Post goal.the-invariant-loop-at goal.the-decreases-loop-at tie.handed_clauses) where
  all : Done c.args.input.now c.args.output.now
      c.loop-at.docket c.loop-at.n c.loop-at.output
  all =
      done c.args.input.now c.args.output.now c.requires.input_len_bound c.requires.in_bounds c.loop-at.docket c.loop-at.n c.loop-at.at c.loop-at.output c.loop-at.invariant c.loop-at-test.false

pub loop-at-init : goal.loop-at-init
loop-at-init c =
    let a = c.args in
    rw c.fresh-docket.ensures (nothing_yet a.input.now a.output.now)

pub slice_bounds-piece-count : goal.slice_bounds-piece-count
slice_bounds-piece-count c = omega (arith, piece c.before)

pub slice_bounds-piece-start : goal.slice_bounds-piece-start
slice_bounds-piece-start c = omega (arith, piece c.before)

pub slice_bounds-piece-end : goal.slice_bounds-piece-end
slice_bounds-piece-end c = (piece c.before).1

pub slice_bounds-write_refusal-count : goal.slice_bounds-write_refusal-count
slice_bounds-write_refusal-count c = omega (arith, (refused c.before).fits)

pub slice_bounds-write_refusal-start : goal.slice_bounds-write_refusal-start
slice_bounds-write_refusal-start c = omega (arith, (refused c.before).fits)

pub write_refusal-n-requires : goal.write_refusal-n-requires
write_refusal-n-requires c = (refused c.before.before).part

pub overflow_add-n : goal.overflow_add-n
overflow_add-n c = omega (arith, (refused c.before.before.before.before.before).few, c.write_refusal-n.ensures.value)

pub loop-at-smaller-in-Err : goal.loop-at-smaller-in-Err
loop-at-smaller-in-Err c =
    omega (arith, piece c.before.before.before.before.before.before.before.before, c.loop-at-test.true)

pub loop-at-preserved-in-Err : goal.loop-at-preserved-in-Err
loop-at-preserved-in-Err c =
    let w = c.write_refusal-n in
    (refused c.before.before.before.before.before).after w.result w.new.buf w.ensures.value w.ensures.buf_after

pub slice_bounds-write_answer-count : goal.slice_bounds-write_answer-count
slice_bounds-write_answer-count c = omega (arith, (answered c.before).fits)

pub slice_bounds-write_answer-start : goal.slice_bounds-write_answer-start
slice_bounds-write_answer-start c = omega (arith, (answered c.before).fits)

pub write_answer-n-requires : goal.write_answer-n-requires
write_answer-n-requires c = (answered c.before.before).part

pub overflow_add-n-in-loop-at : goal.overflow_add-n-in-loop-at
overflow_add-n-in-loop-at c = omega (arith, (answered c.before.before.before.before.before).few, c.write_answer-n.ensures.value)

pub loop-at-smaller : goal.loop-at-smaller
loop-at-smaller c =
    omega (arith, piece c.before.before.before.before.before.before.before.before.before.before, c.loop-at-test.true)

pub loop-at-preserved : goal.loop-at-preserved
loop-at-preserved c =
    let w = c.write_answer-n in
    (answered c.before.before.before.before.before).after w.result w.new.buf w.ensures.value w.ensures.buf_after

pub write_report-requires : goal.write_report-requires
write_report-requires c = record { docket_value = (all c.before.before).good; held_in_bounds = (all c.before.before).fits }

pub shape_of-output : goal.shape_of-output
shape_of-output c = c.write_report.auto.output ∙ (all c.before.before.before.before.before).same

pub returns : goal.returns
returns c =
    let r = c.write_report in
    let d = all c.before.before.before.before.before in
    record { value = r.ensures.value ∙ d.many; output_after = r.ensures.output_after ∙ d.written }
