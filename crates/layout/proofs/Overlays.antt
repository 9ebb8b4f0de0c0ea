-- A loop that copies a list over an array of n from its front: after i turns the array is `overlay d s i`, and after n it is the list's first n.
use mathlib.Core.Path.{◌≡◌, sym, ap, ◌∙◌}
use mathlib.Core.List.{List, ◌++◌, append-nil}
use Prim.Native.Nat.{ℕ, suc, ◌+◌, ◌<◌}
use native.Mathlib.Numerals.{add-one}
use native.Mathlib.Omega.{arith}
use lib.ListN.{length, get_or, take, drop, set, replicate, length-replicate}
use lib.Seq.{take-suc, drop-cons, set_at, append_snoc, length-take-le, drop-length}

abbrev pub overlay : {A : Type 0} → List A → List A → ℕ → List A
overlay d s i = take i s ++ drop i d

pub overlay_more : {A : Type 0} (d s : List A) (i : ℕ) (z : A) → i < length s → i < length d → set (overlay d s i) i (get_or s i z) ≡ overlay d s (i + 1)
overlay_more {A} d s i z h k =
    let l : length (take i s) ≡ i = length-take-le i s (omega arith) in
    rw (add-one, drop-cons d i z, take-suc s i z)
    (set_at (take i s) (get_or d i z) (drop (suc i) d) (get_or s i z) i l ∙ sym (append_snoc (take i s) (get_or s i z) (drop (suc i) d)))

pub overlay_end : {A : Type 0} (n : ℕ) (z : A) (s : List A) (i : ℕ) → i ≡ n → overlay (replicate n z) s i ≡ take n s
overlay_end {A} n z s i e =
    let d = replicate n z in
    ap (overlay d s) (e ∙ sym (length-replicate n z)) ∙ ap (λ (l : List A). take (length d) s ++ l) (drop-length d) ∙ append-nil (take (length d) s)
    ∙ ap (λ (k : ℕ). take k s) (length-replicate n z)
