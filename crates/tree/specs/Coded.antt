-- How the code refuses a split or a count by the bytes above it.
use Rattle.std.specs.Prelude.{cond, List, ℕ, ◌+◌, ltb, Result, Ok, Err}
use Rattle.model.specs.Instance.{◌at◌}
use Rattle.walk.specs.Marks.{mark_of, most_of, upper_begin, lower_begin}
use Rattle.tree.specs.NodeLines.{is_fixed, narrows}

-- 31, 32: the number that refuses a split on the status at a place, at depth d, if one does
unfoldable pub split_refusal : List ℕ → ℕ → ℕ → Result (Unit {0}) ℕ
split_refusal bytes place d = cond (is_fixed (mark_of (bytes at place))) (Err 31) (cond (ltb 63 d) (Err 32) (Ok tt))

-- 32, 37: the number that refuses a count of K units in period t, at depth d, if one does
unfoldable pub count_refusal : List ℕ → ℕ → ℕ → ℕ → Result (Unit {0}) ℕ
count_refusal bytes t K d = cond (ltb 63 d) (Err 32) (cond (narrows (bytes at (lower_begin + t)) (most_of (bytes at (upper_begin + t))) K) (Ok tt) (Err 37))
