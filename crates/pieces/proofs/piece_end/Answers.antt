use Prim.Native.Nat.{ℕ}
use mathlib.Core.List.{List}
use native.Mathlib.Omega.{arith}
use mathlib.Core.Path.{refl, sym, ap, ◌∙◌}
use lib.ListN.{length, drop}
use lib.Seq.{drop-drop}
use Rattle.pieces.specs.Search.{to_e}
use Rattle.pieces.specs.Pieces.{first_of, piece_after}
use Rattle.pieces.proofs.Places.{piece_size, first_on, pieces_none}
use Rattle.pieces.proofs.Search.{piece_on, to_e_moves}
use Rattle.pieces.proofs.piece_end.Goals as goal

pub loop-i-init : goal.loop-i-init
loop-i-init c = refl

pub returns-then-starts : goal.returns-then-starts
unfolding piece_after
returns-then-starts c =
    let s = c.args.s.now in
    let n = first_on (drop c.loop-i.i s) (sym c.starts.ensures ∙ c.if-starts.true) in
    omega (arith, n, c.line_end.ensures, c.loop-i.invariant)

pub loop-i-smaller : goal.loop-i-smaller
loop-i-smaller c =
    let s = c.args.s.now in
    omega (arith, to_e_moves s c.loop-i.i c.loop-i-test.true, c.next_e-i.ensures)

pub loop-i-preserved : goal.loop-i-preserved
loop-i-preserved c =
    let s = c.args.s.now in
    let e = c.next_e-i.ensures in
    let n = piece_on (drop c.loop-i.i s) (sym c.starts.ensures ∙ c.if-starts.false) in
    let d = ap piece_size (drop-drop (to_e (drop c.loop-i.i s)) c.loop-i.i s ∙ ap (λ (k : ℕ). drop k s) (sym e)) in
    omega (arith, n, d, e, c.loop-i.invariant)

pub returns : goal.returns
unfolding piece_after
returns c =
    let s = c.args.s.now in
    omega (arith, ap (λ (ps : List (List ℕ)). length (first_of ps)) (pieces_none s c.loop-i.i c.loop-i-test.false), c.loop-i.invariant)
