-- The pieces from a place of the input on: where a line and a piece end, and what is left after the first piece.
use Prim.Native.Nat.{ℕ, suc, ◌+◌, ◌-◌, ◌≤◌, ◌<◌}
use native.Mathlib.Numerals.{add-one}
use native.Mathlib.Omega.{arith}
use mathlib.Core.Path.{◌≡◌, refl, sym, ap, ◌∙◌}
use mathlib.Core.Bool.{Bool, true, false}
use mathlib.Core.List.{List, [], ◌∷◌, ◌++◌, append-nil, flatten}
use lib.ListN.{length, take, drop, get_or, length-append, length-drop, drop_of_length-le}
use lib.Seq.{drop-drop, drop-cons, drop_at, take_at}
use borrow.Author.Tests.{eq-eqb, ne_eqb}
use Rattle.text.specs.Lines.{Line, missing, unended, ended, due, later, cut_at, lines_of, begins}
use Rattle.text.proofs.Cuts.{later_lines, text_ended}
use Rattle.pieces.specs.Pieces.{end_key, line_bytes, in_front, cut_after, pieces_of, pieces, first_of, piece_after}
use Rattle.pieces.specs.Cut.{Cut}
use Rattle.pieces.proofs.LineCuts.{lines_bytes, bytes_lines, longer_bytes, Proper, lines_proper, key_in_line}
use Rattle.pieces.proofs.TheCut.{joined_pieces, pieces_cut, cut_pieces, first_some, first_long, cut_later}

-- ---- where a line ends

-- how many bytes the first line has, with its byte 10
abbrev pub line_size : List ℕ → ℕ
line_size t = length (line_bytes (due (lines_of t)))

module _ (s : List ℕ) (i : ℕ) where
  pub line_none : length s ≤ i → line_size (drop i s) ≡ 0
  line_none h = ap line_size (drop_of_length-le s h)

  module _ (h : i < length s) where
    pub line_stop : get_or s i 0 ≡ 10 → line_size (drop i s) ≡ 1
    line_stop e =
        ap line_size (drop-cons s i 0 h)
        ∙ ap (λ (x : Bool). length (line_bytes (due (cut_at x (get_or s i 0) (lines_of (drop (suc i) s)))))) (eq-eqb (get_or s i 0) 10 e)

    pub line_on : (get_or s i 0 ≡ 10 → ⊥) → line_size (drop i s) ≡ suc (line_size (drop (i + 1) s))
    line_on e =
        ap line_size (drop-cons s i 0 h)
        ∙ ap (λ (x : Bool). length (line_bytes (due (cut_at x (get_or s i 0) (lines_of (drop (suc i) s)))))) (ne_eqb (get_or s i 0) 10 e)
        ∙ ap length (longer_bytes (get_or s i 0) (due (lines_of (drop (suc i) s))))
        ∙ ap (λ (n : ℕ). suc (line_size (drop n s))) (sym (add-one i))

-- ---- where a piece ends, by its lines

abbrev pub piece_size : List ℕ → ℕ
piece_size t = length (first_of (pieces t))

front_first : (b : List ℕ) (ps : List (List ℕ)) → first_of (in_front b ps) ≡ b ++ first_of ps
front_first b [] = sym (append-nil b)
front_first b (p ∷ ps) = refl

-- end= stands at an ended line exactly where the line begins with it
key_at : (t b : List ℕ) → due (lines_of t) ≡ ended b → begins end_key t ≡ begins end_key b
key_at t b e = ap (begins end_key) (text_ended t b e) ∙ key_in_line end_key b (drop (length b + 1) t) refl

module _ (t : List ℕ) where
  empty : lines_of t ≡ [] → t ≡ []
  empty e = sym (bytes_lines t) ∙ ap lines_bytes e

  alone : (b : List ℕ) → lines_of t ≡ unended b ∷ [] → t ≡ b
  alone b e = sym (bytes_lines t) ∙ ap lines_bytes e ∙ append-nil b

  -- where a line begins end= the piece ends with it; an unended one is the last
  on_of : (ls : List Line) → lines_of t ≡ ls → Proper ls → begins end_key t ≡ true → piece_size t ≡ line_size t
  unfolding pieces
  on_of [] e p h = simp e
  on_of (missing ∷ ls) e p h = absurd p
  on_of (unended b ∷ ls) e p h = simp (e, p.1.1)
  on_of (ended b ∷ ls) e p h =
      let k : begins end_key b ≡ true = sym (key_at t b (ap due e)) ∙ h in
      ap (λ (l : List Line). length (first_of (pieces_of l))) e
      ∙ ap (λ (x : Bool). length (first_of (cut_after x (b ++ (10 ∷ [])) (pieces_of ls)))) k
      ∙ ap (λ (l : List Line). length (line_bytes (due l))) (sym e)

  pub first_on : begins end_key t ≡ true → piece_size t ≡ line_size t
  first_on h = on_of (lines_of t) refl (lines_proper t) h

  -- elsewhere it goes on after the line
  off_of : (ls : List Line) → lines_of t ≡ ls → Proper ls → begins end_key t ≡ false → piece_size t ≡ line_size t + piece_size (drop (line_size t) t)
  unfolding pieces
  off_of [] e p h = simp e
  off_of (missing ∷ ls) e p h = absurd p
  off_of (unended b ∷ ls) e p h =
      let q = alone b (e ∙ ap (λ (l : List Line). unended b ∷ l) p.1.1) in
      let n : line_size t ≡ length b = ap (λ (l : List Line). length (line_bytes (due l))) e in
      let d : drop (line_size t) t ≡ [] = drop_of_length-le t {i = line_size t} (omega (arith, ap length q)) in
      ap (λ (l : List Line). length (first_of (pieces_of l))) (e ∙ ap (λ (l : List Line). unended b ∷ l) p.1.1)
      ∙ sym n
      ∙ omega (arith, ap piece_size d)
  off_of (ended b ∷ ls) e p h =
      let k : begins end_key b ≡ false = sym (key_at t b (ap due e)) ∙ h in
      let n : line_size t ≡ length (b ++ (10 ∷ [])) = ap (λ (l : List Line). length (line_bytes (due l))) e in
      let d : lines_of (drop (line_size t) t) ≡ ls =
      ap (λ (x : ℕ). lines_of (drop x t)) (n ∙ length-append b (10 ∷ [])) ∙ later_lines t b (ap due e) ∙ ap later e in
      let m : piece_size (drop (line_size t) t) ≡ length (first_of (pieces_of ls)) = ap (λ (l : List Line). length (first_of (pieces_of l))) d in
      ap (λ (l : List Line). length (first_of (pieces_of l))) e
      ∙ ap (λ (x : Bool). length (first_of (cut_after x (b ++ (10 ∷ [])) (pieces_of ls)))) k
      ∙ ap length (front_first (b ++ (10 ∷ [])) (pieces_of ls))
      ∙ omega (arith, length-append (b ++ (10 ∷ [])) (first_of (pieces_of ls)))

  pub first_off : begins end_key t ≡ false → piece_size t ≡ line_size t + piece_size (drop (line_size t) t)
  first_off h = off_of (lines_of t) refl (lines_proper t) h

  -- ---- the first piece and what is left after it

  pub record FirstPiece : Type 0 where
    pub unfolds : pieces t ≡ take (piece_size t) t ∷ pieces (drop (piece_size t) t)
    pub some : 0 < piece_size t
    pub within : piece_size t ≤ length t
    pub long : piece_size t < length t → 5 ≤ piece_size t

  long_of : (p : List ℕ) (ps : List (List ℕ)) → Cut (p ∷ ps) → length p < length (flatten (p ∷ ps)) → 5 ≤ length p
  unfolding flatten
  long_of p [] k h = absurd (omega (arith, length-append p []))
  long_of p (q ∷ ps) k h = first_long p q ps k

  first_of_cut : (ps : List (List ℕ)) → pieces t ≡ ps → Cut ps → flatten ps ≡ t → 0 < length t → FirstPiece
  unfolding flatten
  first_of_cut [] e k j h = absurd (omega (arith, ap length j))
  first_of_cut (p ∷ ps) e k j h =
      let n : piece_size t ≡ length p = ap (λ (l : List (List ℕ)). length (first_of l)) e in
      let took : take (piece_size t) t ≡ p = ap (take (piece_size t)) (sym j) ∙ take_at p (flatten ps) (piece_size t) (sym n) in
      let left : drop (piece_size t) t ≡ flatten ps = ap (drop (piece_size t)) (sym j) ∙ drop_at p (flatten ps) (piece_size t) (sym n) in
      record {
        unfolds = e ∙ (λ i. sym took i ∷ (sym (cut_pieces ps (cut_later p ps k)) ∙ ap pieces (sym left)) i);
        some = omega (arith, first_some p ps k);
        within = omega (arith, ap length j, length-append p (flatten ps));
        long = λ l. omega (arith, long_of p ps k (omega (arith, ap length j)));
      }

  pub first_piece : 0 < length t → FirstPiece
  first_piece h = first_of_cut (pieces t) refl (pieces_cut t) (joined_pieces t) h

-- ---- at a place of the input

pub pieces_none : (s : List ℕ) (i : ℕ) → length s ≤ i → pieces (drop i s) ≡ []
unfolding pieces
pieces_none s i h = ap pieces (drop_of_length-le s h)

module _ (s : List ℕ) (i : ℕ) (h : i < length s) where
  at_place : FirstPiece (drop i s)
  at_place = first_piece (drop i s) (omega (arith, length-drop i s))

  -- the first piece from the place on is what stands up to its end, and after it come the pieces from there on
  pub piece_there : pieces (drop i s) ≡ take (piece_after s i - i) (drop i s) ∷ pieces (drop (piece_after s i) s)
  unfolding piece_after
  piece_there =
      let n : piece_after s i - i ≡ piece_size (drop i s) = omega arith in
      at_place.unfolds
      ∙ (λ k. take (sym n k) (drop i s) ∷ pieces (drop-drop (piece_size (drop i s)) i s k))

  pub piece_moves : i < piece_after s i
  unfolding piece_after
  piece_moves = omega (arith, at_place.some)

  pub piece_within : piece_after s i ≤ length s
  unfolding piece_after
  piece_within = omega (arith, at_place.within, length-drop i s)

  -- a piece with something after it has at least five bytes
  pub piece_long : piece_after s i < length s → i + 5 ≤ piece_after s i
  unfolding piece_after
  piece_long l = omega (arith, at_place.long (omega (arith, length-drop i s)))
