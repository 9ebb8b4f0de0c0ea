use Prim.Native.Nat.{ℕ, ◌-◌, ◌*◌, ◌/◌}
use mathlib.Core.Path.{sym, ap, ◌∙◌}
use native.Mathlib.Omega.{arith}
use lib.ListN.{drop, drop_of_length-le}
use Rattle.pieces.specs.Search.{to_e}
use Rattle.pieces.proofs.Search.{to_e_past, to_e_stop, to_e_go}
use Rattle.pieces.proofs.next_e.Goals as goal

pub loop-i-init : goal.loop-i-init
loop-i-init c =
    let a = c.args in
    let n = (to_e (drop a.at a.s.now) - 1) / 32 * 32 in
    let past = to_e_past a.s.now a.at n (omega arith) in
    (omega (arith, past, ap (λ (k : ℕ). to_e (drop k a.s.now)) c.skip_parts-from.ensures, c.skip_parts-from.ensures), omega arith)

pub returns-then-starts : goal.returns-then-starts
returns-then-starts c =
    let s = c.args.s.now in
    omega (arith, to_e_stop s c.loop-i.i c.loop-i-test.true (sym c.starts.ensures ∙ c.if-starts.true), c.loop-i.invariant.0)

pub loop-i-preserved : goal.loop-i-preserved
loop-i-preserved c =
    let s = c.args.s.now in
    (omega (arith, to_e_go s c.loop-i.i c.loop-i-test.true (sym c.starts.ensures ∙ c.if-starts.false), c.loop-i.invariant.0), omega arith)

pub returns : goal.returns
returns c =
    let s = c.args.s.now in
    omega (arith, ap to_e (drop_of_length-le s {i = c.loop-i.i} c.loop-i-test.false), c.loop-i.invariant, c.max.ensures)
