use mathlib.Core.Path.{◌≡◌}
use lib.ListN.{drop}
use Rattle.text.specs.Forms.{all_within}
use Rattle.text.proofs.all_within.Given as goal

abbrev pub invariant-loop-i : goal.invariant-loop-i
invariant-loop-i l = all_within (drop l.i l.v) (drop l.i l.lows) (drop l.i l.highs) ≡ all_within l.v l.lows l.highs
