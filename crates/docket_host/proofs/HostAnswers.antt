-- What the header for hosts says: an output that is too small is refused and left, and of any other the answer is the listing's length,
-- which the refusing number is never.
use Rattle.std.specs.Prelude.{Result, Ok, Err}
use Rattle.std.specs.Result.{result_unwrap_or}
use Prim.Native.Nat.{ℕ, ◌≤◌, ◌<◌}
use native.Mathlib.Omega.{arith}
use mathlib.Core.Path.{◌≡◌, refl, sym, ap}
use mathlib.Core.List.{List}
use lib.ListN.{length}
use Rattle.list.specs.Listing.{listing_text, listed_of}
use Rattle.list.proofs.ListedCases.{small_answer, large_answer}
use Rattle.refusal.specs.declared.Refusal.{Refusal}
use Rattle.docket_host.specs.Calls.{report_number}
use Rattle.docket_host.specs.HostAnswer.{too_little_room, host_answer}
use Rattle.docket_host.proofs.ListingSizes.{listing_fits}

module _ (input output : List ℕ) where
  pub small_refused : length output < 1048576 → host_answer (listed_of input output) ≡ too_little_room
  small_refused h = ap host_answer (sym (small_answer input output h))

  pub large_written : 1048576 ≤ length output → host_answer (listed_of input output) ≡ length (listing_text input)
  large_written h = ap host_answer (sym (large_answer input output h (listing_text input) refl))

  pub told_apart : 1048576 ≤ length output → host_answer (listed_of input output) < too_little_room
  told_apart h = omega (arith, large_written h, listing_fits input)

-- a report's length, or the number for too little room in place of a refusal
pub told_or_43 : (a : Result ℕ Refusal) (r : ℕ) → r ≡ result_unwrap_or a too_little_room → r ≡ report_number a
told_or_43 (Ok n) r e = e
told_or_43 (Err q) r e = e
