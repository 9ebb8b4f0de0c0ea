-- The places of a well-formed problem's statuses, among 1536.
use mathlib.Core.Path.{◌≡◌}
use Prim.Native.Nat.{ℕ, suc, ◌+◌, ◌*◌, ◌≤◌, ◌<◌}
use native.Mathlib.Nat.{mul-le-mul_right}
use native.Mathlib.Omega.{arith}
use lib.ListN.{length}
use Rattle.model.specs.Instance.{Instance}
use Rattle.model.specs.Ranges.{WellFormed}
use Rattle.walk.proofs.AboveMarks.{statuses_fit}

module _ (P : Instance) (W : WellFormed P) where
  -- n being the periods
  pub place_inside : (n U t : ℕ) → n ≡ P.periods → U < length P.units → t < P.periods → U * n + t < 1536
  place_inside n U t e h k = rw e (let f = statuses_fit P W in omega (arith, mul-le-mul_right P.periods (let x : suc U ≤ length P.units = omega arith in x)))
