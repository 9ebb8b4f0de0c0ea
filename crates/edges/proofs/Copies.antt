-- A loop that stores the elements of a list one by one pastes its first ones at the front (`paste` of lib.Seq); when it ends, all of them.
use Rattle.std.proofs.Common.{◌≡◌, ℕ, ◌+◌, ◌<◌, List, length, get_or, set, sym, ap, ◌∙◌, add-one, arith, take_all}
use lib.Seq.{paste, paste-suc}
use Rattle.writer.specs.Written.{over}

-- one element more
pub paste_on : (d s : List ℕ) (i z : ℕ) → i < length d → i < length s → set (paste d 0 s i) i (get_or s i z) ≡ paste d 0 s (i + 1)
paste_on d s i z h k =
    let e : 0 + i ≡ i = omega arith in
    ap (λ (n : ℕ). set (paste d 0 s i) n (get_or s i z)) (sym e)
    ∙ paste-suc d 0 s i z (omega arith) k
    ∙ ap (λ (n : ℕ). paste d 0 s n) (sym (add-one i))

-- all of them
pub paste_end : (d s : List ℕ) (n : ℕ) → n ≡ length s → paste d 0 s n ≡ over s d
paste_end d s n e =
    let z : 0 + n ≡ length s = omega arith in
    rw (z, take_all n s (omega arith))
