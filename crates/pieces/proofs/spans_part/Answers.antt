-- `spans_part` meets its contract: where the input is too short, or the part has a byte 10 with an e behind it, the next line that begins with e, or the input's end, is nearer.
use Prim.Native.Nat.{ℕ, ◌+◌, ◌-◌}
use mathlib.Core.Path.{◌≡◌, sym, ap, ◌∙◌}
use native.Mathlib.Omega.{arith}
use lib.ListN.{take, drop, length-drop}
use Rattle.pieces.specs.Search.{without_e}
use Rattle.pieces.proofs.Search.{part_short, part_without}
use Rattle.pieces.proofs.spans_part.Goals as goal
use Rattle.pieces.proofs.spans_part.Goals.{then-s-lt33-via-then-s-lt33 as short, then-s-lt33-via-else-s-lt33+then-s-at as late}

pub returns-then-s-lt33 : goal.returns-then-s-lt33
returns-then-s-lt33 c =
    let t = drop c.args.at c.args.s.now in
    elim c.then-s-lt33.branch [
      | short w ↦ sym (part_short 33 t (omega (arith, length-drop c.args.at c.args.s.now)))
      | late w ↦ sym (part_short 33 t (omega (arith, length-drop c.args.at c.args.s.now)))
    ]

pub returns : goal.returns
returns c =
    let a = c.args in
    let t = drop a.at a.s.now in
    let n : a.at + 33 - a.at ≡ 33 = omega arith in
    c.is_without_e.ensures ∙ ap (λ (k : ℕ). without_e (take k t)) n ∙ part_without 32 t (omega (arith, length-drop a.at a.s.now))
