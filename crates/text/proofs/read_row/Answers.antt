-- `read_row` meets its contract: what is stored in the front of the array is the line, and zeros stand behind it.
use native.Mathlib.Omega.{arith}
use mathlib.Core.Path.{◌≡◌, sym, ap, ◌∙◌}
use mathlib.Core.List.{List, ◌++◌}
use lib.ListN.{length, take, drop, replicate, length-replicate}
use lib.Seq.{length-take-le}
use Prim.Native.Nat.{ℕ, ◌≤◌}
use Rattle.text.specs.Lines.{line_at}
use Rattle.text.specs.Forms.{plain, numbers_of, verdict_of}
use Rattle.text.proofs.Verdicts.{refused_row, good_row}
use Rattle.text.proofs.Plain.{plain_was, pad_48_is}
use Rattle.text.proofs.Fills.{plain_filled}
use Rattle.std.proofs.lemmas.Result.{err_from_is_err_and}
use Rattle.text.proofs.read_row.Goals as goal
use Rattle.text.proofs.read_row.Tie as tie
use Rattle.text.proofs.read_row.Reads as reads
use Rattle.text.proofs.read_row.Lts as lts

-- the part that is lent
long : (n : ℕ) → n ≤ 48 → length (take n (replicate {A = ℕ} 48 0)) ≡ n
long n h = length-take-le n (replicate {A = ℕ} 48 0) (omega (arith, length-replicate {A = ℕ} 48 0))

-- the verdict is that of the line
verdict : (c : lts.After-fill_row tie.the-claims reads.Pre reads.Post tie.handed_clauses) →
    let a = c.args in
    c.fill_row.result ≡ verdict_of (plain a.key.now a.n a.lo a.hi) (line_at a.s.now a.at) a.at
verdict c =
    let a = c.args in
    c.fill_row.ensures.answer ∙ ap (λ (n : ℕ). verdict_of (plain a.key.now n a.lo a.hi) (line_at a.s.now a.at) a.at) (long a.n c.requires.1.0)

pub slice_bounds-fill_row-end : goal.slice_bounds-fill_row-end
slice_bounds-fill_row-end c = sym (long c.args.n c.requires.1.0)

pub fill_row-requires : goal.fill_row-requires
fill_row-requires c = (c.requires.0, (omega (arith, long c.args.n c.requires.1.0, c.requires.1.0), c.requires.1.1))

pub returns-in_err-next : goal.returns-in_err-next
returns-in_err-next c =
    let a = c.args in
    let p = err_from_is_err_and c.from_residual.result c.from_residual.ensures.1 in
    rw (p.1, p.2) (refused_row (plain a.key.now a.n a.lo a.hi) (line_at a.s.now a.at) a.at c.fill_row.result (verdict c.before.before.before.before.before) _ c.in_err-next.was)

pub returns : goal.returns
returns c =
    let a = c.args in
    let f = plain a.key.now a.n a.lo a.hi in
    let l = line_at a.s.now a.at in
    let is = verdict c.before.before.before.before in
    let g = plain_filled a.key.now a.lo a.hi a.s.now (take a.n (replicate 48 0)) a.at c.requires.0 c.requires.1.1 c.fill_row.ensures.stored (long a.n c.requires.1.0) is c.in_ok-next.was in
    let p = plain_was a.key.now a.n a.lo a.hi l g.line_good in
    good_row f l a.at c.fill_row.result is c.in_ok-next.next c.in_ok-next.was _ (sym p.unsigned) _
    (ap (λ (x : List ℕ). x ++ drop a.n (replicate 48 0)) g.values ∙ pad_48_is (numbers_of f l) a.n p.count)
