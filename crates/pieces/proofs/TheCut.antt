-- The pieces of an input are a cut of it, and the only one: a piece that ends after its end= line stands in front of the pieces of what
-- follows, and bytes left over are one piece.
use Prim.Native.Nat.{ℕ, ◌≤◌, ◌<◌}
use native.Mathlib.Omega.{arith}
use mathlib.Core.Path.{◌≡◌, refl, sym, ap, ◌∙◌}
use mathlib.Core.Bool.{Bool, true, false, not}
use mathlib.Core.List.{List, [], ◌∷◌, ◌++◌, append_assoc, append-nil, flatten}
use lib.ListN.{length, length-append}
use borrow.Author.Tests.{not-true}
use Rattle.text.specs.Lines.{Line, missing, unended, ended, lines_of, one_line, begins}
use Rattle.text.proofs.Cuts.{and_both, cut_line}
use Rattle.text.proofs.Keys.{begins_text}
use Rattle.pieces.specs.Pieces.{end_key, ends_piece, line_bytes, in_front, cut_after, pieces_of, pieces}
use Rattle.pieces.specs.Cut.{none_ends, last_ends, Cut, none, rest, more}
use Rattle.pieces.proofs.LineCuts.{lines_bytes, bytes_lines, Proper, lines_proper, unended_line, all_ended, lines_append}

-- ---- the pieces one after the other are the input

front_joined : (b : List ℕ) (ps : List (List ℕ)) → flatten (in_front b ps) ≡ b ++ flatten ps
unfolding flatten
front_joined b [] = refl
front_joined b (p ∷ ps) = append_assoc b p (flatten ps)

cut_joined : (t : Bool) (b : List ℕ) (ps : List (List ℕ)) → flatten (cut_after t b ps) ≡ b ++ flatten ps
unfolding flatten
cut_joined true b ps = refl
cut_joined false b ps = front_joined b ps

joined_lines : (ls : List Line) → flatten (pieces_of ls) ≡ lines_bytes ls
unfolding flatten
joined_lines [] = refl
joined_lines (l ∷ ls) = cut_joined (ends_piece l) (line_bytes l) (pieces_of ls) ∙ ap (λ (t : List ℕ). line_bytes l ++ t) (joined_lines ls)

pub joined_pieces : (s : List ℕ) → flatten (pieces s) ≡ s
unfolding pieces
joined_pieces s = joined_lines (lines_of s) ∙ bytes_lines s

-- ---- they are a cut

more_ends : (b : List ℕ) (ls : List Line) → begins end_key b ≡ false → last_ends ls ≡ true → last_ends (ended b ∷ ls) ≡ true
more_ends b [] u e = absurd (let z : ◌≡◌ {A = ℕ} 0 1 = cc in omega arith)
more_ends b (l ∷ ls) u e = simp (u, e)

-- the line b and byte 10 in front of bytes
line_front : (b p : List ℕ) → one_line b ≡ true → lines_of ((b ++ (10 ∷ [])) ++ p) ≡ ended b ∷ lines_of p
line_front b p o = ap lines_of (append_assoc b (10 ∷ []) p) ∙ cut_line b p o

cut_front : (b : List ℕ) (ps : List (List ℕ)) → one_line b ≡ true → begins end_key b ≡ false → Cut ps → Cut (in_front (b ++ (10 ∷ [])) ps)
cut_front b [] o u none = rest {p = b ++ (10 ∷ [])} (omega (arith, length-append b (10 ∷ []))) (rw (cut_line b [] o) (simp u))
cut_front b (p ∷ []) o u (rest h e) = rest {p = (b ++ (10 ∷ [])) ++ p} (omega (arith, length-append (b ++ (10 ∷ [])) p)) (rw (line_front b p o) (simp (u, e)))
cut_front b (p ∷ ps) o u (more e k) = more {p = (b ++ (10 ∷ [])) ++ p} (rw (line_front b p o) (more_ends b (lines_of p) u e)) k

cut_line_after : (t : Bool) (b : List ℕ) (ps : List (List ℕ)) → begins end_key b ≡ t → one_line b ≡ true → Cut ps → Cut (cut_after t (b ++ (10 ∷ [])) ps)
cut_line_after true b ps u o k = more {p = b ++ (10 ∷ [])} (rw (cut_line b [] o) u) k
cut_line_after false b ps u o k = cut_front b ps o u k

cut_lines : (ls : List Line) → Proper ls → Cut (pieces_of ls)
cut_lines [] p = none
cut_lines (missing ∷ ls) p = absurd p
cut_lines (unended b ∷ ls) p = rw p.1.1 (rest {p = b} p.1.0 (rw (unended_line b p.0 p.1.0) refl))
cut_lines (ended b ∷ ls) p = cut_line_after (begins end_key b) b (pieces_of ls) refl p.0 (cut_lines ls p.1)

pub pieces_cut : (s : List ℕ) → Cut (pieces s)
unfolding pieces
pieces_cut s = cut_lines (lines_of s) (lines_proper s)

-- ---- there is no other

-- where the last line of bytes ends a piece, all of them are ended
ends_ended : (ls : List Line) → Proper ls → last_ends ls ≡ true → all_ended ls ≡ true
ends_ended [] p e = refl
ends_ended (missing ∷ ls) p e = absurd p
ends_ended (unended b ∷ ls) p e =
    let z : last_ends (unended b ∷ []) ≡ true = rw p.1.1 at e in
    absurd (let y : ◌≡◌ {A = ℕ} 0 1 = cc in omega arith)
ends_ended (ended b ∷ []) p e = refl
ends_ended (ended b ∷ l ∷ ls) p e = ends_ended (l ∷ ls) p.1 (and_both (not (begins end_key b)) (last_ends (l ∷ ls)) e).1

piece_front : (ls ms : List Line) → last_ends ls ≡ true → pieces_of (ls ++ ms) ≡ lines_bytes ls ∷ pieces_of ms
piece_front [] ms e = absurd (let z : ◌≡◌ {A = ℕ} 0 1 = cc in omega arith)
piece_front (l ∷ []) ms e =
    ap (λ (t : Bool). cut_after t (line_bytes l) (pieces_of ms)) e
    ∙ ap (λ (b : List ℕ). b ∷ pieces_of ms) (sym (append-nil (line_bytes l)))
piece_front (l ∷ m ∷ ls) ms e =
    let p = and_both (not (ends_piece l)) (last_ends (m ∷ ls)) e in
    ap (cut_after (ends_piece l) (line_bytes l)) (piece_front (m ∷ ls) ms p.1)
    ∙ ap (λ (t : Bool). cut_after t (line_bytes l) (lines_bytes (m ∷ ls) ∷ pieces_of ms)) (not-true (ends_piece l) p.0)

rest_one : (l : Line) (ls : List Line) → none_ends (l ∷ ls) ≡ true → pieces_of (l ∷ ls) ≡ lines_bytes (l ∷ ls) ∷ []
rest_one l [] e =
    let p = and_both (not (ends_piece l)) true e in
    ap (λ (t : Bool). cut_after t (line_bytes l) []) (not-true (ends_piece l) p.0)
    ∙ ap (λ (b : List ℕ). b ∷ []) (sym (append-nil (line_bytes l)))
rest_one l (m ∷ ls) e =
    let p = and_both (not (ends_piece l)) (none_ends (m ∷ ls)) e in
    ap (cut_after (ends_piece l) (line_bytes l)) (rest_one m ls p.1)
    ∙ ap (λ (t : Bool). cut_after t (line_bytes l) (lines_bytes (m ∷ ls) ∷ [])) (not-true (ends_piece l) p.0)

rest_lines : (ls : List Line) → 0 < length (lines_bytes ls) → none_ends ls ≡ true → pieces_of ls ≡ lines_bytes ls ∷ []
rest_lines [] h e = absurd (omega arith)
rest_lines (l ∷ ls) h e = rest_one l ls e

pub cut_pieces : (ps : List (List ℕ)) → Cut ps → pieces (flatten ps) ≡ ps
unfolding pieces flatten
cut_pieces [] none = refl
cut_pieces (p ∷ []) (rest h e) =
    ap (λ (t : List ℕ). pieces_of (lines_of t)) (append-nil p)
    ∙ rest_lines (lines_of p) (omega (arith, ap length (bytes_lines p))) e
    ∙ ap (λ (b : List ℕ). b ∷ []) (bytes_lines p)
cut_pieces (p ∷ ps) (more e k) =
    ap pieces_of (lines_append p (flatten ps) (ends_ended (lines_of p) (lines_proper p) e))
    ∙ piece_front (lines_of p) (lines_of (flatten ps)) e
    ∙ (λ i. bytes_lines p i ∷ cut_pieces ps k i)

-- the pieces of an input are its cut, and any cut of it
pub the_cut : (s : List ℕ) (ps : List (List ℕ)) → Cut ps → flatten ps ≡ s → ps ≡ pieces s
the_cut s ps k e = sym (cut_pieces ps k) ∙ ap pieces e

-- ---- sizes

begins_long : (b : List ℕ) → begins end_key b ≡ true → 4 ≤ length b
begins_long b e = omega (arith, ap length (begins_text end_key b e))

ends_long : (ls : List Line) → last_ends ls ≡ true → 5 ≤ length (lines_bytes ls)
ends_long [] e = absurd (let z : ◌≡◌ {A = ℕ} 0 1 = cc in omega arith)
ends_long (missing ∷ []) e = absurd (let z : ◌≡◌ {A = ℕ} 0 1 = cc in omega arith)
ends_long (unended b ∷ []) e = absurd (let z : ◌≡◌ {A = ℕ} 0 1 = cc in omega arith)
ends_long (ended b ∷ []) e = omega (arith, begins_long b e, length-append (b ++ (10 ∷ [])) [], length-append b (10 ∷ []))
ends_long (l ∷ m ∷ ls) e =
    let p = and_both (not (ends_piece l)) (last_ends (m ∷ ls)) e in
    omega (arith, ends_long (m ∷ ls) p.1, length-append (line_bytes l) (lines_bytes (m ∷ ls)))

-- end= and byte 10 at least
whole_long : (p : List ℕ) → last_ends (lines_of p) ≡ true → 5 ≤ length p
whole_long p e = omega (arith, ends_long (lines_of p) e, ap length (bytes_lines p))

-- a piece has a byte
pub first_some : (p : List ℕ) (ps : List (List ℕ)) → Cut (p ∷ ps) → 0 < length p
first_some p [] (rest h e) = h
first_some p ps (more e k) = omega (arith, whole_long p e)

-- one that is not the last has five
pub first_long : (p q : List ℕ) (ps : List (List ℕ)) → Cut (p ∷ q ∷ ps) → 5 ≤ length p
first_long p q ps (more e k) = whole_long p e

pub cut_later : (p : List ℕ) (ps : List (List ℕ)) → Cut (p ∷ ps) → Cut ps
cut_later p [] (rest h e) = none
cut_later p ps (more e k) = k
