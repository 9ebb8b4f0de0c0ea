-- The lines of an input and its pieces: the input is its lines, lines that are whole stand where they stood whatever follows, and a
-- key without byte 10 stands at a line exactly where the line begins with it.
use Prim.Native.Nat.{ℕ, ◌<◌}
use native.Mathlib.Omega.{arith}
use mathlib.Core.Path.{◌≡◌, refl, sym, ap, ◌∙◌}
use mathlib.Core.Bool.{Bool, true, false, not, ◌&&◌}
use mathlib.Core.List.{List, [], ◌∷◌, ◌++◌}
use lib.ListN.{length}
use lib.Dec.{eqb}
use borrow.Author.Tests.{eqb-true, eqb-false, not-true, ne_eqb}
use Rattle.text.specs.Lines.{Line, missing, unended, ended, due, later, longer, cut_at, lines_of, one_line, begins}
use Rattle.text.proofs.Cuts.{and_both}
use Rattle.pieces.specs.Pieces.{line_bytes}

-- the bytes of the lines
abbrev pub lines_bytes : List Line → List ℕ
lines_bytes [] = []
lines_bytes (l ∷ ls) = line_bytes l ++ lines_bytes ls

pub longer_bytes : (c : ℕ) (l : Line) → line_bytes (longer c l) ≡ c ∷ line_bytes l
longer_bytes c missing = refl
longer_bytes c (unended b) = refl
longer_bytes c (ended b) = refl

longer_front : (c : ℕ) (ls : List Line) → lines_bytes (longer c (due ls) ∷ later ls) ≡ c ∷ lines_bytes ls
longer_front c [] = refl
longer_front c (l ∷ ls) = ap (λ (b : List ℕ). b ++ lines_bytes ls) (longer_bytes c l)

-- an input is the bytes of its lines
pub bytes_lines : (s : List ℕ) → lines_bytes (lines_of s) ≡ s
bytes_lines [] = refl
bytes_lines (c ∷ s) = go (eqb c 10) refl (bytes_lines s)
  where
    go : (p : Bool) → eqb c 10 ≡ p → lines_bytes (lines_of s) ≡ s → lines_bytes (cut_at p c (lines_of s)) ≡ c ∷ s
    go true u h = λ i. sym (eqb-true c 10 u) i ∷ h i
    go false u h = longer_front c (lines_of s) ∙ ap (λ (l : List ℕ). c ∷ l) h

-- ---- lines as a cut makes them: an ended one holds no byte 10, an unended one neither and has a byte and is the last

abbrev pub Proper : List Line → Type 0
Proper [] = Unit {0}
Proper (missing ∷ ls) = ⊥
Proper (unended b ∷ ls) = (one_line b ≡ true) × ((0 < length b) × (ls ≡ []))
Proper (ended b ∷ ls) = (one_line b ≡ true) × Proper ls

longer_proper : (c : ℕ) (ls : List Line) → eqb c 10 ≡ false → Proper ls → Proper (longer c (due ls) ∷ later ls)
longer_proper c [] u p = (simp u, (omega arith, refl))
longer_proper c (missing ∷ ls) u p = absurd p
longer_proper c (unended b ∷ ls) u p = (simp (u, p.0), (omega arith, p.1.1))
longer_proper c (ended b ∷ ls) u p = (simp (u, p.0), p.1)

pub lines_proper : (s : List ℕ) → Proper (lines_of s)
lines_proper [] = tt
lines_proper (c ∷ s) = go (eqb c 10) refl (lines_proper s)
  where
    go : (p : Bool) → eqb c 10 ≡ p → Proper (lines_of s) → Proper (cut_at p c (lines_of s))
    go true u h = (refl, h)
    go false u h = longer_proper c (lines_of s) u h

-- bytes without byte 10, if there are any, are one unended line
pub unended_line : (b : List ℕ) → one_line b ≡ true → 0 < length b → lines_of b ≡ unended b ∷ []
unended_line [] e h = absurd (omega arith)
unended_line (c ∷ []) e h =
    let p = and_both (not (eqb c 10)) true e in
    ap (λ (x : Bool). cut_at x c []) (not-true (eqb c 10) p.0)
unended_line (c ∷ d ∷ b) e h =
    let p = and_both (not (eqb c 10)) (one_line (d ∷ b)) e in
    ap (λ (x : Bool). cut_at x c (lines_of (d ∷ b))) (not-true (eqb c 10) p.0)
    ∙ ap (cut_at false c) (unended_line (d ∷ b) p.1 (omega arith))

-- ---- lines that are all ended

abbrev pub all_ended : List Line → Bool
all_ended [] = true
all_ended (missing ∷ ls) = false
all_ended (unended b ∷ ls) = false
all_ended (ended b ∷ ls) = all_ended ls

-- bytes after them leave them as they are
pub lines_append : (p t : List ℕ) → all_ended (lines_of p) ≡ true → lines_of (p ++ t) ≡ lines_of p ++ lines_of t
lines_append [] t e = refl
lines_append (c ∷ p) t e = go (eqb c 10) (lines_of p) refl (lines_append p t) e
  where
    go : (x : Bool) (ls : List Line) → lines_of p ≡ ls → (all_ended (lines_of p) ≡ true → lines_of (p ++ t) ≡ lines_of p ++ lines_of t)
        → all_ended (cut_at x c (lines_of p)) ≡ true → cut_at x c (lines_of (p ++ t)) ≡ cut_at x c (lines_of p) ++ lines_of t
    go true ls w rec e = ap (λ (l : List Line). ended [] ∷ l) (rec e)
    go false [] w rec e = absurd (let z : all_ended (cut_at false c []) ≡ true = rw w at e in let y : ◌≡◌ {A = ℕ} 0 1 = cc in omega arith)
    go false (missing ∷ ls) w rec e = absurd (let z : all_ended (cut_at false c (missing ∷ ls)) ≡ true = rw w at e in let y : ◌≡◌ {A = ℕ} 0 1 = cc in omega arith)
    go false (unended b ∷ ls) w rec e = absurd (let z : all_ended (cut_at false c (unended b ∷ ls)) ≡ true = rw w at e in let y : ◌≡◌ {A = ℕ} 0 1 = cc in omega arith)
    go false (ended b ∷ ls) w rec e =
        let z : all_ended ls ≡ true = rw w at e in
        let h : lines_of (p ++ t) ≡ (ended b ∷ ls) ++ lines_of t = rec (rw w z) ∙ ap (λ (l : List Line). l ++ lines_of t) w in
        ap (cut_at false c) h ∙ sym (ap (λ (l : List Line). cut_at false c l ++ lines_of t) w)

-- ---- a key at a line

-- a key without byte 10 stands within the line
pub key_in_line : (key b t : List ℕ) → one_line key ≡ true → begins key (b ++ (10 ∷ t)) ≡ begins key b
key_in_line [] b t e = refl
key_in_line (k ∷ key) [] t e =
    let p = and_both (not (eqb k 10)) (one_line key) e in
    ap (λ (x : Bool). x && begins key t) (ne_eqb 10 k (λ q. eqb-false k 10 (not-true (eqb k 10) p.0) (sym q)))
key_in_line (k ∷ key) (c ∷ b) t e =
    let p = and_both (not (eqb k 10)) (one_line key) e in
    ap (λ (x : Bool). eqb c k && x) (key_in_line key b t p.1)
