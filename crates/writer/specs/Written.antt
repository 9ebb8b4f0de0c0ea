-- What is written: numbers, words, lines, and what a buffer then holds.
use Rattle.std.specs.Prelude.{ℕ, suc, List, [], ◌∷◌, ◌++◌, length, drop, ℤ, pos, negsuc}
use Rattle.decimal.specs.Decimal.{digits}
use Rattle.writer.specs.declared.Figure.{Figure}
use Rattle.writer.specs.declared.Figure.TheVariants.{Missing, Never, Number, Minus}

-- ---- document 01, The docket and its report: bytes outside what is written stay

-- b with the bytes l in place of its first ones
abbrev pub over : List ℕ → List ℕ → List ℕ
over l b = l ++ drop (length l) b

-- ---- document 01, The listing program: how a figure is shown, also one that is not there or not a number

-- none
abbrev pub none_word : List ℕ
none_word = 110 ∷ 111 ∷ 110 ∷ 101 ∷ []

-- never
abbrev pub never_word : List ℕ
never_word = 110 ∷ 101 ∷ 118 ∷ 101 ∷ 114 ∷ []

unfoldable pub figure : Figure → List ℕ
figure Missing = none_word
figure Never = never_word
figure (Number n) = digits n
figure (Minus n) = 45 ∷ digits n

-- the figure that shows a whole number
unfoldable pub figure_of : ℤ → Figure
figure_of (pos n) = Number n
figure_of (negsuc n) = Minus (suc n)

-- a line: the key with its `=`, the figure, byte 10
abbrev pub line : List ℕ → Figure → List ℕ
line key f = key ++ (figure f ++ (10 ∷ []))
