-- The line is read into the part of the buffer between its first number and its last.
use mathlib.Core.Path.{◌≡◌, ap, ◌∙◌}
use Prim.Native.Nat.{ℕ}
use native.Mathlib.Omega.{arith}
use mathlib.Core.List.{List, ◌++◌}
use lib.ListN.{length, take, drop, length-drop}
use lib.Seq.{length-take-le}
use Rattle.text.specs.Lines.{line_at}
use Rattle.text.specs.Forms.{plain, verdict_of}
use Rattle.tree.specs.RampReads.{inner}
use Rattle.tree.proofs.ramp.fill_steps.Goals as goal

pub returns : goal.returns
returns c =
    let a = c.args in
    let l = a.out.now in
    let part : length (take (inner l) (drop 1 l)) ≡ inner l = length-take-le (inner l) (drop 1 l) (omega (arith, length-drop 1 l)) in record { answer = c.fill_row.ensures.answer ∙ ap (λ (k : ℕ). verdict_of (plain a.key.now k 0 1000000000) (line_at a.text.now a.at) a.at) part; stored = ap (λ (y : List ℕ). take 1 l ++ (y ++ drop (inner l) (drop 1 l))) c.fill_row.ensures.stored }
