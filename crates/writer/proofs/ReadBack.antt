-- What is written is read back: the digits of a number as the number, and a line of a number as the rendering of the number.
use Prim.Native.Nat.{ℕ, ◌≤◌, min}
use native.Mathlib.Nat.{zero-add}
use native.Mathlib.Omega.{arith}
use mathlib.Core.Path.{◌≡◌, refl, sym, ap, ◌∙◌}
use mathlib.Core.Bool.{true, false}
use mathlib.Core.List.{List, [], ◌∷◌, ◌++◌, append_assoc}
use lib.ListN.{length, drop}
use Rattle.decimal.specs.Decimal.{digits}
use Rattle.decimal.specs.NumberRead.{number, read_cap, leading_digits, number_at}
use Rattle.decimal.proofs.Numerals.{read_digits}
use Rattle.text.specs.Lines.{due, line_at, one_line}
use Rattle.text.specs.Forms.{plain, place_after, pad_48, row_of}
use Rattle.text.specs.Rendering.{rendered}
use Rattle.std.specs.Prelude.{Ok}
use Rattle.text.proofs.Accepted.{rendered_read, rendered_cut, rendered_line}
use Rattle.text.proofs.Plain.{plain_fits, one_between}
use Rattle.writer.specs.Written.{over, figure, line}
use Rattle.writer.specs.declared.Figure.TheVariants.{Number, Minus}

-- ---- a number

-- the digits of n over a buffer in which no digit follows them are read as n
pub number_back : (n : ℕ) (b : List ℕ) → leading_digits (drop (length (digits n)) b) ≡ [] → number_at (over (digits n) b) 0 ≡ number (min read_cap n) (length (digits n))
number_back n b h =
    read_digits (over (digits n) b) (drop (length (digits n)) b) 0 n refl h
    ∙ ap (number (min read_cap n)) (zero-add (length (digits n)))

-- ---- a line

-- a written line is the rendering of its number, and byte 10
pub line_number : (key : List ℕ) (n : ℕ) → line key (Number n) ≡ rendered key 0 false (n ∷ []) ++ (10 ∷ [])
unfolding figure
line_number key n = sym (append_assoc key (digits n) (10 ∷ []))

pub line_minus : (key : List ℕ) (n : ℕ) → line key (Minus n) ≡ rendered key 1 true (n ∷ []) ++ (10 ∷ [])
unfolding figure
line_minus key n = sym (append_assoc key (45 ∷ digits n) (10 ∷ []))

-- the line of n over a buffer is read as n
pub line_back : (key : List ℕ) (n lo hi : ℕ) (b : List ℕ) → one_line key ≡ true → lo ≤ n → n ≤ hi
    → row_of (plain key 1 lo hi) (line_at (over (line key (Number n)) b) 0) 0
    ≡ Ok (record { next = place_after (rendered_line (plain key 1 lo hi) false (n ∷ [])) 0; minus = false; values = pad_48 (n ∷ []) })
line_back key n lo hi b one h k =
    let f = plain_fits key 1 lo hi (n ∷ []) (omega arith) refl (one_between lo hi n h k) in
    let rest = drop (length (line key (Number n))) b in
    let t : over (line key (Number n)) b ≡ rendered key 0 false (n ∷ []) ++ (10 ∷ rest) =
    ap (λ (l : List ℕ). l ++ rest) (line_number key n) ∙ append_assoc (rendered key 0 false (n ∷ [])) (10 ∷ []) rest in
    ap (λ (l : List ℕ). row_of (plain key 1 lo hi) (line_at l 0) 0) t
    ∙ ap (λ (ls : List _). row_of (plain key 1 lo hi) (due ls) 0) (rendered_cut (plain key 1 lo hi) false (n ∷ []) f rest one)
    ∙ rendered_read (plain key 1 lo hi) false (n ∷ []) f 0
