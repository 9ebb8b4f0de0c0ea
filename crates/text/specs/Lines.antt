-- A text cut into its lines.
use Rattle.std.specs.Prelude.{ℕ, Bool, true, false, not, ◌&&◌, cond, List, [], ◌∷◌, drop, eqb}
use Rattle.text.specs.declared.Kind.{Kind}
use Rattle.text.specs.declared.Kind.TheVariants.{Unknown, Problem, Schedule, Tree}

-- ---- document 01, Texts: lines, each ended by byte 10

-- a line that is due: it is not there, the text ends within it, or byte 10 follows these bytes
pub data Line : Type 0 where
  missing : Line
  unended : List ℕ → Line
  ended : List ℕ → Line

abbrev pub bytes_of : Line → List ℕ
bytes_of missing = []
bytes_of (unended b) = b
bytes_of (ended b) = b

-- the first of the lines that are left, and those after it
abbrev pub due : List Line → Line
due [] = missing
due (l ∷ ls) = l

abbrev pub later : List Line → List Line
later [] = []
later (l ∷ ls) = ls

-- one byte more in front of a line
abbrev pub longer : ℕ → Line → Line
longer b missing = unended (b ∷ [])
longer b (unended l) = unended (b ∷ l)
longer b (ended l) = ended (b ∷ l)

abbrev pub cut_at : Bool → ℕ → List Line → List Line
cut_at true b ls = ended [] ∷ ls
cut_at false b ls = longer b (due ls) ∷ later ls

-- the lines of a text
abbrev pub lines_of : List ℕ → List Line
lines_of [] = []
lines_of (b ∷ s) = cut_at (eqb b 10) b (lines_of s)

-- the line that starts at a place of a text
abbrev pub line_at : List ℕ → ℕ → Line
line_at s at = due (lines_of (drop at s))

-- ---- keys and words, compared to the letter

-- no byte ends a line
abbrev pub one_line : List ℕ → Bool
one_line [] = true
one_line (b ∷ s) = not (eqb b 10) && one_line s

-- whether the bytes begin with the key
abbrev pub begins : List ℕ → List ℕ → Bool
begins [] t = true
begins (k ∷ ks) [] = false
begins (k ∷ ks) (b ∷ t) = eqb b k && begins ks t

abbrev pub same : List ℕ → List ℕ → Bool
same [] [] = true
same [] (b ∷ t) = false
same (k ∷ ks) [] = false
same (k ∷ ks) (b ∷ t) = eqb b k && same ks t

-- whether the line is the word
abbrev pub is_line : List ℕ → Line → Bool
is_line w missing = false
is_line w (unended b) = false
is_line w (ended b) = same w b

-- ---- document 01, Texts: the first line says the kind

-- kind=problem
abbrev pub kind_problem : List ℕ
kind_problem = 107 ∷ 105 ∷ 110 ∷ 100 ∷ 61 ∷ 112 ∷ 114 ∷ 111 ∷ 98 ∷ 108 ∷ 101 ∷ 109 ∷ []

-- kind=schedule
abbrev pub kind_schedule : List ℕ
kind_schedule = 107 ∷ 105 ∷ 110 ∷ 100 ∷ 61 ∷ 115 ∷ 99 ∷ 104 ∷ 101 ∷ 100 ∷ 117 ∷ 108 ∷ 101 ∷ []

-- kind=tree
abbrev pub kind_tree : List ℕ
kind_tree = 107 ∷ 105 ∷ 110 ∷ 100 ∷ 61 ∷ 116 ∷ 114 ∷ 101 ∷ 101 ∷ []

unfoldable pub kind_of : Line → Kind
kind_of l = cond (is_line kind_problem l) Problem (cond (is_line kind_schedule l) Schedule (cond (is_line kind_tree l) Tree Unknown))

-- ---- document 01, Texts: the last line

-- end=problem
abbrev pub end_problem : List ℕ
end_problem = 101 ∷ 110 ∷ 100 ∷ 61 ∷ 112 ∷ 114 ∷ 111 ∷ 98 ∷ 108 ∷ 101 ∷ 109 ∷ []

-- end=schedule
abbrev pub end_schedule : List ℕ
end_schedule = 101 ∷ 110 ∷ 100 ∷ 61 ∷ 115 ∷ 99 ∷ 104 ∷ 101 ∷ 100 ∷ 117 ∷ 108 ∷ 101 ∷ []

-- end=tree
abbrev pub end_tree : List ℕ
end_tree = 101 ∷ 110 ∷ 100 ∷ 61 ∷ 116 ∷ 114 ∷ 101 ∷ 101 ∷ []
