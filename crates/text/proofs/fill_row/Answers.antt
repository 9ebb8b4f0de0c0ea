-- `fill_row` meets its contract: none is out of range where the count of those outside is 0, and the verdict is as for a line.
use borrow.Author.Rules.{rules}
use mathlib.Core.Path.{◌≡◌, sym, ap, ◌∙◌}
use lib.Dec.{eqb}
use lib.ListN.{length, replicate, length-replicate}
use Prim.Native.Nat.{ℕ}
use Rattle.text.specs.Forms.{all_within}
use Rattle.text.proofs.Ranges.{none_outside}
use Rattle.text.proofs.Rows.{below_same}
use Rattle.text.proofs.Fills.{fill_verdict}
use Rattle.text.proofs.fill_row.Goals as goal

pub returns : goal.returns
returns c =
    let a = c.args in
    let v = c.read_keyed-read in
    let n = length a.out.now in
    let out = v.new.out in
    let kept : length out ≡ n = search rules in record {
      answer = c.judge_values.ensures
          ∙ fill_verdict a.key.now (replicate n a.lo) (replicate n a.hi) a.s.now a.out.now a.at c.requires.0 (below_same n a.hi c.requires.1.1) (sym (length-replicate n a.lo)) v.ensures.stored v.ensures.answer kept
          (ap (λ (k : ℕ). eqb k 0) c.count_outside-within.ensures ∙ none_outside a.lo a.hi out ∙ ap (λ (k : ℕ). all_within out (replicate k a.lo) (replicate k a.hi)) kept);
      stored = v.ensures.stored;
    }
