-- `main` meets its contract: what the listing wrote lies within the output.
use Prim.Native.Nat.{◌≤◌}
use native.Mathlib.Omega.{arith}
use mathlib.Core.Path.{sym, ap, ◌∙◌}
use lib.ListN.{length, length-take}
use Rattle.list.proofs.ListedCases.{written_within}
use Rattle.listing.proofs.main.Goals as goal
use Rattle.listing.proofs.main.Tie as tie
use Rattle.listing.proofs.main.Reads as reads
use Rattle.listing.proofs.main.Lts as lts

module _ (c : lts.Past-After-known_told tie.the-claims reads.Pre reads.Post tie.handed_clauses) where
  within : c.in-Some.k ≤ length c.list.new.output
  within =
      let l = c.list in
      omega (arith, written_within _ _ _ (sym l.ensures.answer ∙ c.in-Some.is), ap length l.ensures.bytes)

pub slice_bounds-output-end : goal.slice_bounds-output-end
slice_bounds-output-end c = omega (arith, within c)

pub slice_bounds-write_all-end : goal.slice_bounds-write_all-end
slice_bounds-write_all-end c = simp length-take (omega (arith, within c.before))
