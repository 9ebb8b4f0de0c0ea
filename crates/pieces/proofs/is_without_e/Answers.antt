use Prim.Native.Nat.{ℕ, ◌+◌, ◌-◌}
use mathlib.Core.Path.{◌≡◌, refl, sym, ap, ◌∙◌}
use mathlib.Core.Bool.{Bool, not, ◌&&◌, and_assoc, and-true}
use native.Mathlib.Omega.{arith}
use lib.ListN.{drop, get_or}
use lib.Dec.{eqb}
use Rattle.pieces.specs.Search.{without_e}
use Rattle.pieces.proofs.Search.{without_on, without_last}
use Rattle.pieces.proofs.is_without_e.Goals as goal

pub loop-i-init : goal.loop-i-init
loop-i-init c = (omega arith, refl)

pub overflow_sub-without : goal.overflow_sub-without
overflow_sub-without c = c.loop-i.invariant.0

pub loop-i-preserved : goal.loop-i-preserved
loop-i-preserved c =
    let p = c.args.part.now in
    let w = c.loop-i.without in
    let i = c.loop-i.i in
    let rest = without_e (drop i p) in
    let one = not (eqb (get_or p (i - 1) 0) 10 && eqb (get_or p i 0) 101) in
    let n : i + 1 - 1 ≡ i = omega arith in (
      omega arith,
      ap (λ (k : ℕ). (w && one) && without_e (drop k p)) n
          ∙ and_assoc w one rest
          ∙ ap (λ (x : Bool). w && x) (sym (without_on p i c.loop-i.invariant.0 (omega arith)))
          ∙ c.loop-i.invariant.1,
    )

pub returns : goal.returns
returns c =
    let p = c.args.part.now in
    let w = c.loop-i.without in
    sym (and-true w) ∙ ap (λ (x : Bool). w && x) (sym (without_last p (c.loop-i.i - 1) (omega (arith, c.loop-i.invariant.0)))) ∙ c.loop-i.invariant.1
