-- A text of ended lines is cut into these lines, and a text that is cut into ended lines is these lines with their bytes 10.
use Prim.Native.Nat.{ℕ, ◌+◌}
use native.Mathlib.Omega.{arith}
use mathlib.Core.Path.{◌≡◌, refl, ap, ◌∙◌}
use mathlib.Core.Bool.{true}
use mathlib.Core.List.{List, [], ◌∷◌, ◌++◌, map}
use mathlib.Core.Logic.{◌↔◌}
use lib.ListN.{length, drop}
use Rattle.text.specs.Lines.{Line, ended, due, later, lines_of, line_at, one_line}
use Rattle.text.specs.Rendering.{text_of}
use Rattle.text.proofs.Cuts.{cut_line, text_ended, later_lines, lines_none}

-- no line has a byte 10 within it
abbrev pub OneLines : List (List ℕ) → Type 0
OneLines [] = Unit {0}
OneLines (b ∷ bs) = (one_line b ≡ true) × OneLines bs

pub one_lines_both : (a b : List (List ℕ)) → OneLines a → OneLines b → OneLines (a ++ b)
one_lines_both [] b h k = k
one_lines_both (x ∷ a) b h k = (h.0, one_lines_both a b h.1 k)

pub lines_text : (bs : List (List ℕ)) → OneLines bs → lines_of (text_of bs) ≡ map ended bs
lines_text [] o = refl
lines_text (b ∷ bs) o = cut_line b (text_of bs) o.0 ∙ ap (λ (ls : List Line). ended b ∷ ls) (lines_text bs o.1)

pub text_lines : (bs : List (List ℕ)) (s : List ℕ) → lines_of s ≡ map ended bs → s ≡ text_of bs
text_lines [] s e = lines_none s e
text_lines (b ∷ bs) s e =
    let d : due (lines_of s) ≡ ended b = ap due e in
    text_ended s b d
    ∙ ap (λ (t : List ℕ). b ++ (10 ∷ t)) (text_lines bs (drop (length b + 1) s) (later_lines s b d ∙ ap later e))

-- ---- a text by its first line and those after it

after_first : (ls : List Line) (b : List ℕ) → due ls ≡ ended b → ls ≡ ended b ∷ later ls
after_first [] b e = absurd (let z : ◌≡◌ {A = ℕ} 0 1 = cc in omega arith)
after_first (l ∷ ls) b e = ap (λ (x : Line). x ∷ ls) e

pub whole_is : (text b : List ℕ) (bs : List (List ℕ)) → line_at text 0 ≡ ended b → OneLines (b ∷ bs)
    → (later (lines_of text) ≡ map ended bs) ↔ (text ≡ text_of (b ∷ bs))
whole_is text b bs first o = (
  λ e. text_lines (b ∷ bs) text (after_first (lines_of text) b first ∙ ap (λ (ls : List Line). ended b ∷ ls) e),
  λ e. ap (λ (t : List ℕ). later (lines_of t)) e ∙ ap later (lines_text (b ∷ bs) o),
)
