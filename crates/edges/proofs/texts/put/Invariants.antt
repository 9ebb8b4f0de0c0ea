-- `put` meets its contract. The loop's invariant: whatever f computes, what it makes of the first bytes of s is pasted at the front.
use Rattle.std.proofs.Common.{◌≡◌, ℕ, ◌<◌, map}
use lib.Seq.{paste}
use Rattle.edges.proofs.texts.put.Given as goal

abbrev pub invariant-loop-i : goal.invariant-loop-i
invariant-loop-i g l =
    (h : ℕ → ℕ) → ((b : ℕ) (r : ℕ) → b < 256 → goal.F-post g l.f b r → r ≡ h b) → l.buf ≡ paste l.initial.buf 0 (map h l.s) l.i
