-- An array that the library makes from a closure's results, index by index: where no call changes the closure, what a call gives at each index says
-- which array it is.
use mathlib.Core.Path.{◌≡◌, sym, ap, subst, ◌∙◌}
use mathlib.Core.List.{List}
use Prim.Native.Nat.{ℕ, zero, suc, ◌+◌, ◌<◌}
use native.Mathlib.Omega.{arith}
use denote.Param.Members.{Mut, Called}
use lib.ListN.{length, get_or}
use lib.Seq.{ext_get_or}
use Rattle.std.specs.Array.{IsFromFnResult, IsFromFnResultFrom}

-- a call at an index below n gives what h says, and leaves the closure as it was
abbrev pub Gives : {F B : Type 0} → Mut F (ℕ × Unit {0}) B → F → (ℕ → B) → ℕ → Type 0
Gives {F} {B} g f h n = (j : ℕ) (y : B) (q : F) → j < n → Called g f (j, tt) y q → (q ≡ f) × (y ≡ h j)

-- the n members from place i on
from : {F B : Type 0} (g : Mut F (ℕ × Unit {0}) B) (f : F) (ys : List B) (h : ℕ → B) (z : B) (i n : ℕ) → IsFromFnResultFrom g f ys i n
    → Gives g f h (i + n) → (k : ℕ) → k < n → get_or ys (i + k) z ≡ h (i + k)
from g f ys h z i zero r e k l = absurd (omega arith)
from g f ys h z i (suc n) r e zero l =
    let (q, y, here, called, rest) = r in
    let same : i + 0 ≡ i = omega arith in
    ap (λ j. get_or ys j z) same ∙ here.1 z ∙ (e i y q (omega arith) called).1 ∙ sym (ap h same)
from {F} g f ys h z i (suc n) r e (suc k) l =
    let (q, y, here, called, rest) = r in
    let same : i + suc k ≡ i + 1 + k = omega arith in
    let next = subst (λ (p : F). IsFromFnResultFrom g p ys (i + 1) n) (e i y q (omega arith) called).0 rest in
    ap (λ j. get_or ys j z) same ∙ from g f ys h z (i + 1) n next (λ j y q m c. e j y q (omega arith) c) k (omega arith) ∙ sym (ap h same)

pub made : {F B : Type 0} {g : Mut F (ℕ × Unit {0}) B} {f : F} {ys : List B} (h : ℕ → B) (n : ℕ) (xs : List B) (z : B) → IsFromFnResult g f ys n
    → Gives g f h n → length xs ≡ n → ((i : ℕ) → i < n → h i ≡ get_or xs i z) → ys ≡ xs
made {F} {B} {g} {f} {ys} h n xs z r e long at =
    ext_get_or z ys xs (r.long ∙ sym long)
    (λ i l. let same : 0 + i ≡ i = omega arith in
    let below : i < n = omega (arith, r.long, l) in
    ap (λ j. get_or ys j z) (sym same) ∙ from g f ys h z 0 n r.each (λ j y q m c. e j y q (omega arith) c) i below ∙ ap h same ∙ at i below)
