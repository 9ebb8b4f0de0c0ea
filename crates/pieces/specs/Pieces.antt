-- Document 01, The listing program: the input cut after each line that begins end=.
use Rattle.std.specs.Prelude.{Bool, true, false, List, [], ◌∷◌, ◌++◌, ℕ, ◌+◌, length, drop}
use Rattle.text.specs.Lines.{Line, missing, unended, ended, lines_of, begins}

-- end=
abbrev pub end_key : List ℕ
end_key = 101 ∷ 110 ∷ 100 ∷ 61 ∷ []

-- a line, ended by byte 10, that begins end=
abbrev pub ends_piece : Line → Bool
ends_piece missing = false
ends_piece (unended b) = false
ends_piece (ended b) = begins end_key b

-- the bytes of a line, with the byte 10 that ends it
abbrev pub line_bytes : Line → List ℕ
line_bytes missing = []
line_bytes (unended b) = b
line_bytes (ended b) = b ++ (10 ∷ [])

-- the bytes b in front of the first of the pieces
abbrev pub in_front : List ℕ → List (List ℕ) → List (List ℕ)
in_front b [] = b ∷ []
in_front b (p ∷ ps) = (b ++ p) ∷ ps

-- a cut after the bytes b, or none
abbrev pub cut_after : Bool → List ℕ → List (List ℕ) → List (List ℕ)
cut_after true b ps = b ∷ ps
cut_after false b ps = in_front b ps

abbrev pub pieces_of : List Line → List (List ℕ)
pieces_of [] = []
pieces_of (l ∷ ls) = cut_after (ends_piece l) (line_bytes l) (pieces_of ls)

-- the pieces; bytes left over are the last
unfoldable pub pieces : List ℕ → List (List ℕ)
pieces input = pieces_of (lines_of input)

-- the first piece, nothing where there is none
abbrev pub first_of : List (List ℕ) → List ℕ
first_of [] = []
first_of (p ∷ ps) = p

-- the place after the piece that starts at a place of the input
unfoldable pub piece_after : List ℕ → ℕ → ℕ
piece_after input at = at + length (first_of (pieces (drop at input)))
