-- Document 01, The listing program: what a cut of an input is, said of the pieces alone.
use Rattle.std.specs.Prelude.{◌≡◌, Bool, true, false, not, ◌&&◌, List, [], ◌∷◌, ℕ, ◌<◌, length}
use Rattle.text.specs.Lines.{Line, lines_of}
use Rattle.pieces.specs.Pieces.{ends_piece}

-- none of the lines ends a piece
abbrev pub none_ends : List Line → Bool
none_ends [] = true
none_ends (l ∷ ls) = not (ends_piece l) && none_ends ls

-- the last of the lines ends a piece, and no other does
abbrev pub last_ends : List Line → Bool
last_ends [] = false
last_ends (l ∷ []) = ends_piece l
last_ends (l ∷ m ∷ ls) = not (ends_piece l) && last_ends (m ∷ ls)

-- each piece ends after its first line that begins end=; the last one may be bytes left over, without such a line
pub data Cut : List (List ℕ) → Type 0 where
  none : Cut []
  rest : {p : List ℕ} → 0 < length p → none_ends (lines_of p) ≡ true → Cut (p ∷ [])
  more : {p : List ℕ} {ps : List (List ℕ)} → last_ends (lines_of p) ≡ true → Cut ps → Cut (p ∷ ps)
