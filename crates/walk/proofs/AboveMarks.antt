-- Within the problem the bytes are the marks and the counts that they hold, and its statuses lie before the counts.
use mathlib.Core.Path.{◌≡◌, refl}
use mathlib.Core.List.{List}
use Prim.Native.Nat.{ℕ, ◌+◌, ◌*◌, ◌≤◌, ◌<◌}
use native.Mathlib.Nat.{mul-le-mul}
use native.Mathlib.Omega.{arith}
use borrow.Author.Tests.{lt-ltb}
use lib.ListN.{length}
use Rattle.model.specs.Instance.{Instance, ◌at◌}
use Rattle.model.specs.Ranges.{WellFormed}
use Rattle.model.proofs.Extents.{SameMarks}
use Rattle.walk.specs.Marks.{all_marks, marks_in, upper_begin, lower_begin, above_length, most_of, most_in, least_in}

pub marks_same : (I T : ℕ) (bytes : List ℕ) → SameMarks I T (all_marks T bytes) (marks_in I T bytes)
unfolding marks_in
marks_same I T bytes u h t l = rw (lt-ltb u I h, lt-ltb t T l) refl

module _ (T : ℕ) (bytes : List ℕ) (t : ℕ) (l : t < T) where
  pub most_here : most_of (bytes at (upper_begin + t)) ≡ most_in T bytes t
  unfolding most_in
  most_here = rw (lt-ltb t T l) refl

  pub least_here : bytes at (lower_begin + t) ≡ least_in T bytes t
  unfolding least_in
  least_here = rw (lt-ltb t T l) refl

module _ (P : Instance) (W : WellFormed P) where
  pub statuses_fit : length P.units * P.periods ≤ upper_begin
  statuses_fit = omega (arith, mul-le-mul W.units_in.1 W.periods_in.1)

  pub statuses_inside : (bytes : List ℕ) → length bytes ≡ above_length → length P.units * P.periods ≤ length bytes
  statuses_inside bytes long = omega (arith, statuses_fit, long)
