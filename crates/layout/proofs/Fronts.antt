-- A slice written from its front, piece after piece: `front h v` is v with h over its front.
use mathlib.Core.Path.{◌≡◌, refl, sym, ap, ◌∙◌}
use mathlib.Core.List.{List, [], ◌++◌}
use Prim.Native.Nat.{ℕ, ◌+◌}
use lib.ListN.{length, take, drop, length-append}
use lib.Seq.{paste, take_at, take-length, drop-drop, drop-append-add}

abbrev pub front : {A : Type 0} → List A → List A → List A
front h v = h ++ drop (length h) v

pub front_more : {A : Type 0} (h v x s : List A) (k : ℕ) → x ≡ front h v → length h ≡ k → paste x k s (length s) ≡ front (h ++ s) v
front_more {A} h v x s k e m =
    let n = length s in
    let rest : drop (k + n) x ≡ drop (length (h ++ s)) v =
    ap (λ (i : ℕ). drop (i + n) x) (sym m) ∙ ap (drop (length h + n)) e ∙ drop-append-add h (drop (length h) v) n ∙ drop-drop n (length h) v
    ∙ ap (λ (i : ℕ). drop i v) (sym (length-append h s)) in
    let first : take k x ≡ h = ap (take k) e ∙ take_at h (drop (length h) v) k m in
    rw (first, take-length s, rest) refl

-- s whole, stored at the front
pub paste_front : {A : Type 0} (v s : List A) → paste v 0 s (length s) ≡ front s v
paste_front v s = front_more [] v v s 0 refl refl
