-- `usable_of` meets its contract: a product with 0 or 1.
use mathlib.Core.Path.{ap, ◌∙◌}
use Prim.Native.Nat.{ℕ, ◌*◌}
use native.Mathlib.Omega.{arith}
use borrow.Author.Rules.{rules}
use mir.Syntax.{w64}
use mir.Val.{Fits}
use Rattle.walk.specs.Marks.{mark_of}
use Rattle.leaves.proofs.MarkBytes.{unless_off_times, unless_off_most}
use Rattle.leaves.proofs.marks.usable_of.Goals as goal

pub overflow_mul-result : goal.overflow_mul-result
overflow_mul-result c =
    let high = c.args.high in
    let fits : Fits w64 high = search rules in
    omega (arith, fits, ap (λ (k : ℕ). high * k) c.not_off_of.ensures, unless_off_most (mark_of c.args.mark) high)

pub returns : goal.returns
returns c =
    let high = c.args.high in
    ap (λ (k : ℕ). high * k) c.not_off_of.ensures ∙ unless_off_times (mark_of c.args.mark) high
