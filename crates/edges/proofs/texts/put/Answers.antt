use Rattle.std.proofs.Common.{ℕ, ◌<◌, map, set, get_or, sym, ap, ◌∙◌, arith}
use lib.ListN.{length-map, get_or-map}
use lib.Seq.{paste-zero}
use Rattle.edges.proofs.Copies.{paste_on, paste_end}
use Rattle.edges.proofs.texts.put.Goals as goal

pub loop-i-init : goal.loop-i-init
loop-i-init g c = λ h k. paste-zero c.args.buf.now 0 (map h c.args.s.now)

pub loop-i-preserved : goal.loop-i-preserved
loop-i-preserved g c = λ h k.
    let s = c.args.s.now in
    let i = c.loop-i.i in
    let small : get_or s i 0 < 256 = omega (arith, c.type_inv.s i) in
    let e = k (get_or s i 0) c.f.result small c.f.ensures ∙ sym (get_or-map h s i 0) in
    let on = paste_on c.args.buf.now (map h s) i (h 0) (omega arith) (omega (arith, length-map s h)) in
    ap (λ (v : ℕ). set c.loop-i.buf i v) e ∙ rw (c.loop-i.invariant h k) on

pub returns : goal.returns
returns g c = λ h k.
    let s = c.args.s.now in
    c.loop-i.invariant h k ∙ paste_end c.args.buf.now (map h s) c.loop-i.i (omega (arith, length-map s h))
