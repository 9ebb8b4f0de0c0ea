-- Inputs and their pieces, by computation.
use Prim.Native.Nat.{ℕ}
use mathlib.Core.Path.{◌≡◌, refl}
use mathlib.Core.List.{List, [], ◌∷◌, ◌++◌}
use Rattle.pieces.specs.Pieces.{pieces, piece_after}

-- kind=tree, end=tree and end= with its byte 10; a line that begins with other bytes; end= unended
kind_line : List ℕ
kind_line = 107 ∷ 105 ∷ 110 ∷ 100 ∷ 61 ∷ 116 ∷ 114 ∷ 101 ∷ 101 ∷ 10 ∷ []

end_line : List ℕ
end_line = 101 ∷ 110 ∷ 100 ∷ 61 ∷ 116 ∷ 114 ∷ 101 ∷ 101 ∷ 10 ∷ []

bare_end : List ℕ
bare_end = 101 ∷ 110 ∷ 100 ∷ 61 ∷ 10 ∷ []

no_end : List ℕ
no_end = 32 ∷ 101 ∷ 110 ∷ 100 ∷ 61 ∷ 10 ∷ []

unended_end : List ℕ
unended_end = 101 ∷ 110 ∷ 100 ∷ 61 ∷ 116 ∷ []

no_input : pieces [] ≡ []
unfolding pieces
no_input = refl

two_texts : pieces (kind_line ++ (end_line ++ (kind_line ++ end_line))) ≡ (kind_line ++ end_line) ∷ (kind_line ++ end_line) ∷ []
unfolding pieces kind_line end_line
two_texts = refl

-- end= alone ends a piece; two of them are two pieces
shortest : pieces (bare_end ++ bare_end) ≡ bare_end ∷ bare_end ∷ []
unfolding pieces bare_end
shortest = refl

-- bytes left over are the last piece, also a byte 10 alone
left_over : pieces (end_line ++ (10 ∷ [])) ≡ end_line ∷ (10 ∷ []) ∷ []
unfolding pieces end_line
left_over = refl

-- end= that does not begin the line ends no piece
within_line : pieces (no_end ++ end_line) ≡ (no_end ++ end_line) ∷ []
unfolding pieces no_end end_line
within_line = refl

-- an unended line that begins end= is left over with the lines before it
unended_last : pieces (kind_line ++ unended_end) ≡ (kind_line ++ unended_end) ∷ []
unfolding pieces kind_line unended_end
unended_last = refl

second_ends : piece_after (bare_end ++ (kind_line ++ end_line)) 5 ≡ 24
unfolding piece_after pieces bare_end kind_line end_line
second_ends = refl
