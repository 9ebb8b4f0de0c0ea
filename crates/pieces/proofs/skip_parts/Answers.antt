use Prim.Native.Nat.{◌+◌, ◌≤◌, ◌<◌}
use mathlib.Core.Path.{refl, sym, ◌∙◌}
use native.Mathlib.Omega.{arith}
use borrow.Author.Tests.{leb-true, leb-false}
use lib.ListN.{length, drop, length-drop}
use Rattle.pieces.specs.Search.{to_e}
use Rattle.pieces.proofs.Search.{to_e_most, to_e_past}
use Rattle.pieces.proofs.skip_parts.Goals as goal
use Rattle.pieces.proofs.skip_parts.Tie as tie
use Rattle.pieces.proofs.skip_parts.Reads as reads
use Rattle.pieces.proofs.skip_parts.Lts as lts

-- a part stands at the place, and so within the input
spanned : (c : lts.Then1 tie.the-claims reads.Pre reads.Post goal.the-invariant-loop-i goal.the-decreases-loop-i) → 33 ≤ to_e (drop c.loop-i.i c.args.s.now)
spanned c = leb-true 33 _ (sym c.spans_part.ensures ∙ c.loop-i-test.true)

within : (c : lts.Then1 tie.the-claims reads.Pre reads.Post goal.the-invariant-loop-i goal.the-decreases-loop-i) → c.loop-i.i + 32 ≤ length c.args.s.now
within c =
    let s = c.args.s.now in
    let i = c.loop-i.i in
    omega (arith, spanned c, to_e_most (drop i s), length-drop i s)

pub loop-i-init : goal.loop-i-init
loop-i-init c = refl

pub overflow_add-i : goal.overflow_add-i
overflow_add-i c = omega (arith, within c.before)

pub loop-i-smaller : goal.loop-i-smaller
loop-i-smaller c = omega (arith, within c.before)

pub loop-i-preserved : goal.loop-i-preserved
loop-i-preserved c =
    let l = c.loop-i in
    omega (arith, spanned c.before, to_e_past c.args.s.now l.i 32 (omega (arith, spanned c.before)), l.invariant)

pub returns : goal.returns
returns c =
    let l = c.loop-i in
    let h : to_e (drop l.i c.args.s.now) < 33 = leb-false 33 _ (sym c.spans_part.ensures ∙ c.loop-i-test.false) in
    omega (arith, l.invariant)
