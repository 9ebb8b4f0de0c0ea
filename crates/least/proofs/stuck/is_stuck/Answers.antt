-- `is_stuck` meets its contract: the walk is over periods that cost nothing.
use mathlib.Core.Path.{sym, ap, ◌∙◌}
use Prim.Native.Nat.{ℕ}
use borrow.Author.Rules.{rules}
use lib.Dec.{eqb}
use lib.ListN.{length}
use Rattle.walk.specs.Marks.{marks_of}
use Rattle.walk.proofs.Fronts.{front_length}
use Rattle.least.proofs.StuckUnits.{free_good, free_walk}
use Rattle.least.proofs.stuck.is_stuck.Goals as goal

pub slice_bounds-free-end : goal.slice_bounds-free-end
slice_bounds-free-end c = sym (front_length 0 _ 48 (search rules))

pub walk_value-requires : goal.walk_value-requires
walk_value-requires c =
    let n = length c.args.fixed.now in
    (free_good n c.requires, sym (front_length 0 n 48 c.requires.1))

pub returns : goal.returns
returns c =
    let a = c.args in
    ap (λ (v : ℕ). eqb v 0) c.walk_value.ensures ∙ free_walk (length a.fixed.now) c.requires a.unit.generator (marks_of a.fixed.now)
