-- `add` meets its contract: small values have a sum that fits.
use mathlib.Core.Path.{◌≡◌}
use borrow.Author.Rules.{rules}
use mir.Syntax.{w64}
use mir.Val.{to_z, of_z}
use mir.ValLaws.{to_z-of_z}
use lib.IntN.{◌+ℤ◌}
use Rattle.leaves.proofs.SmallSums.{add_fits}
use Rattle.leaves.proofs.price.add.Goals as goal

pub overflow_add-result : goal.overflow_add-result
overflow_add-result c =
    let x : to_z w64 (of_z w64 c.args.x) ≡ c.args.x = search rules in
    let y : to_z w64 (of_z w64 c.args.y) ≡ c.args.y = search rules in
    rw (x, y) (add_fits c.args.x c.args.y c.requires.0 c.requires.1)

pub returns : goal.returns
returns c =
    let x : to_z w64 (of_z w64 c.args.x) ≡ c.args.x = search rules in
    let y : to_z w64 (of_z w64 c.args.y) ≡ c.args.y = search rules in
    rw (x, y) (to_z-of_z w64 (c.args.x +ℤ c.args.y) (add_fits c.args.x c.args.y c.requires.0 c.requires.1))
