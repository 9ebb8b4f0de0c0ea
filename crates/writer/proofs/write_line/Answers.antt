use native.Mathlib.Omega.{arith}
use Prim.Native.Nat.{ℕ}
use mathlib.Core.Path.{◌≡◌, ap, ◌∙◌}
use mathlib.Core.List.{List, [], ◌∷◌, ◌++◌, append_assoc}
use lib.ListN.{length-append}
use Rattle.writer.specs.Written.{over}
use Rattle.writer.specs.Written.{figure}
use Rattle.writer.proofs.Figures.{line_length}
use Rattle.writer.proofs.Parts.{next, one_more}
use Rattle.writer.proofs.write_line.Goals as goal

pub returns : goal.returns
returns c =
    let a = c.args in
    let key = a.key.now in
    let buf = a.buf.now in
    let ds = figure a.f in
    let k = c.write_bytes-k in
    let w : k.new.buf ≡ over key buf = k.ensures.buf_after in
    let len = line_length key a.f in
    let n = c.write_figure-w in
    let w₂ = next buf k.new.buf key k.result w k.ensures.value ds n.new.buf n.ensures.buf_after in record {
      value = omega (arith, len, k.ensures.value, n.ensures.value);
      buf_after = one_more buf _ (key ++ ds) _ w₂ (omega (arith, k.ensures.value, n.ensures.value, length-append key ds)) 10 (omega (arith, len, c.requires, length-append key ds))
          ∙ ap (λ (l : List ℕ). over l buf) (append_assoc key ds (10 ∷ []));
    }
