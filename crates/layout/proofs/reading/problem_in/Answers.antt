-- `problem_in` meets its contract: its arrays are read from their places.
use mathlib.Core.Path.{refl, ap, ◌∙◌}
use lib.ListN.{take}
use Rattle.layout.specs.Numbers.{problem_in}
use Rattle.layout.proofs.Readings.{from_whole}
use Rattle.layout.proofs.reading.problem_in.Goals as goal

pub returns : goal.returns
unfolding problem_in
returns c =
    let v = c.args.numbers.now in
    rw (
      c.generators_in.ensures,
      c.loads_in-2.ensures ∙ ap (take 48) (from_whole v 50),
      c.loads_in.ensures ∙ ap (take 48) (from_whole v 2),
    ) refl
