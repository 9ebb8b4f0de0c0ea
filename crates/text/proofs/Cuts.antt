-- The cut of a text into lines: moving past an ended line is moving to the next line of the cut, and a text is its lines.
use Prim.Native.Nat.{ℕ, suc, ◌+◌}
use native.Mathlib.Omega.{arith}
use mathlib.Core.Path.{◌≡◌, refl, ap, ◌∙◌}
use mathlib.Core.Bool.{Bool, true, false, not, ◌&&◌}
use mathlib.Core.List.{List, [], ◌∷◌, ◌++◌}
use lib.ListN.{length, drop}
use lib.Seq.{drop-drop}
use lib.Dec.{eqb}
use borrow.Author.Tests.{eqb-true, not-true}
use Rattle.text.specs.Lines.{Line, missing, unended, ended, due, later, longer, cut_at, lines_of, line_at, one_line}

pub and_both : (a b : Bool) → (a && b) ≡ true → (a ≡ true) × (b ≡ true)
and_both true b e = (refl, e)
and_both false b e = (e, absurd (let z : ◌≡◌ {A = ℕ} 0 1 = cc in omega arith))

-- ---- from a text to its lines

-- the text of an ended line is its bytes and byte 10
pub text_ended : (s b : List ℕ) → due (lines_of s) ≡ ended b → s ≡ b ++ (10 ∷ drop (length b + 1) s)
text_ended [] b e = absurd (let z : ◌≡◌ {A = ℕ} 0 1 = cc in omega arith)
text_ended (c ∷ s) b e = go (eqb c 10) refl (due (lines_of s)) refl (text_ended s) e
  where
    go : (p : Bool) → eqb c 10 ≡ p → (d : Line) → due (lines_of s) ≡ d
        → ((b : List ℕ) → due (lines_of s) ≡ ended b → s ≡ b ++ (10 ∷ drop (length b + 1) s))
        → due (cut_at p c (lines_of s)) ≡ ended b → c ∷ s ≡ b ++ (10 ∷ drop (length b + 1) (c ∷ s))
    go true u d w rec e =
        let q : [] ≡ b = cc in
        rw (← q) (ap (λ (x : ℕ). x ∷ s) (eqb-true c 10 u))
    go false u missing w rec e = absurd (let z : ◌≡◌ {A = ℕ} 0 1 = cc in omega arith)
    go false u (unended x) w rec e = absurd (let z : ◌≡◌ {A = ℕ} 0 1 = cc in omega arith)
    go false u (ended x) w rec e =
        let q : c ∷ x ≡ b = cc in
        let n : suc (length x) + 1 ≡ suc (length x + 1) = omega arith in
        rw (← q, n) (ap (λ (l : List ℕ). c ∷ l) (rec x w))

-- the lines after an ended line are those of the text after its byte 10
pub later_lines : (s b : List ℕ) → due (lines_of s) ≡ ended b → lines_of (drop (length b + 1) s) ≡ later (lines_of s)
later_lines [] b e = absurd (let z : ◌≡◌ {A = ℕ} 0 1 = cc in omega arith)
later_lines (c ∷ s) b e = go (eqb c 10) (due (lines_of s)) refl (later_lines s) e
  where
    go : (p : Bool) (d : Line) → due (lines_of s) ≡ d → ((b : List ℕ) → due (lines_of s) ≡ ended b → lines_of (drop (length b + 1) s) ≡ later (lines_of s))
        → due (cut_at p c (lines_of s)) ≡ ended b → lines_of (drop (length b + 1) (c ∷ s)) ≡ later (cut_at p c (lines_of s))
    go true d w rec e =
        let q : [] ≡ b = cc in
        rw (← q) refl
    go false missing w rec e = absurd (let z : ◌≡◌ {A = ℕ} 0 1 = cc in omega arith)
    go false (unended x) w rec e = absurd (let z : ◌≡◌ {A = ℕ} 0 1 = cc in omega arith)
    go false (ended x) w rec e =
        let q : c ∷ x ≡ b = cc in
        let n : suc (length x) + 1 ≡ suc (length x + 1) = omega arith in
        rw (← q, n) (rec x w)

-- the same at a place of the text
pub next_lines : (s b : List ℕ) (at : ℕ) → line_at s at ≡ ended b → lines_of (drop (at + length b + 1) s) ≡ later (lines_of (drop at s))
next_lines s b at e =
    let n : at + length b + 1 ≡ at + (length b + 1) = omega arith in
    rw (n, ← drop-drop (length b + 1) at s) (later_lines (drop at s) b e)

-- no byte of an ended line is byte 10
pub ended_one : (s b : List ℕ) → due (lines_of s) ≡ ended b → one_line b ≡ true
ended_one [] b e = absurd (let z : ◌≡◌ {A = ℕ} 0 1 = cc in omega arith)
ended_one (c ∷ s) b e = go (eqb c 10) refl (due (lines_of s)) refl (ended_one s) e
  where
    go : (p : Bool) → eqb c 10 ≡ p → (d : Line) → due (lines_of s) ≡ d → ((b : List ℕ) → due (lines_of s) ≡ ended b → one_line b ≡ true)
        → due (cut_at p c (lines_of s)) ≡ ended b → one_line b ≡ true
    go true u d w rec e =
        let q : [] ≡ b = cc in
        rw (← q) refl
    go false u missing w rec e = absurd (let z : ◌≡◌ {A = ℕ} 0 1 = cc in omega arith)
    go false u (unended x) w rec e = absurd (let z : ◌≡◌ {A = ℕ} 0 1 = cc in omega arith)
    go false u (ended x) w rec e =
        let q : c ∷ x ≡ b = cc in
        rw (← q) (simp (u, rec x w))

-- no line is left exactly where no byte is
pub lines_none : (s : List ℕ) → lines_of s ≡ [] → s ≡ []
lines_none [] e = refl
lines_none (c ∷ s) e = go (eqb c 10) e
  where
    go : (p : Bool) → cut_at p c (lines_of s) ≡ [] → c ∷ s ≡ []
    go true e = absurd (let z : ◌≡◌ {A = ℕ} 0 1 = cc in omega arith)
    go false e = absurd (let z : ◌≡◌ {A = ℕ} 0 1 = cc in omega arith)

-- past an ended line fewer lines are left
pub later_fewer : (ls : List Line) (b : List ℕ) → due ls ≡ ended b → length (later ls) + 1 ≡ length ls
later_fewer [] b e = absurd (let z : ◌≡◌ {A = ℕ} 0 1 = cc in omega arith)
later_fewer (l ∷ ls) b e = omega arith

-- ---- from lines to a text

-- bytes without byte 10 and then byte 10 are one line
pub cut_line : (b t : List ℕ) → one_line b ≡ true → lines_of (b ++ (10 ∷ t)) ≡ ended b ∷ lines_of t
cut_line [] t e = refl
cut_line (c ∷ b) t e =
    let p = and_both (not (eqb c 10)) (one_line b) e in
    ap (λ (x : Bool). cut_at x c (lines_of (b ++ (10 ∷ t)))) (not-true (eqb c 10) p.0)
    ∙ ap (λ (ls : List Line). longer c (due ls) ∷ later ls) (cut_line b t p.1)

-- ---- bytes in front of a line

abbrev pub prepend : List ℕ → Line → Line
prepend [] l = l
prepend (k ∷ ks) l = longer k (prepend ks l)

pub prepend_ended : (ks b : List ℕ) → prepend ks (ended b) ≡ ended (ks ++ b)
prepend_ended [] b = refl
prepend_ended (k ∷ ks) b = ap (longer k) (prepend_ended ks b)

pub prepend_unended : (ks b : List ℕ) → prepend ks (unended b) ≡ unended (ks ++ b)
prepend_unended [] b = refl
prepend_unended (k ∷ ks) b = ap (longer k) (prepend_unended ks b)

pub line_append : (ks t : List ℕ) → one_line ks ≡ true → due (lines_of (ks ++ t)) ≡ prepend ks (due (lines_of t))
line_append [] t e = refl
line_append (k ∷ ks) t e =
    let p = and_both (not (eqb k 10)) (one_line ks) e in
    ap (λ (x : Bool). due (cut_at x k (lines_of (ks ++ t)))) (not-true (eqb k 10) p.0)
    ∙ ap (longer k) (line_append ks t p.1)

pub prepend_missing : (k : ℕ) (ks : List ℕ) → prepend (k ∷ ks) missing ≡ unended (k ∷ ks)
prepend_missing k [] = refl
prepend_missing k (j ∷ ks) = ap (longer k) (prepend_missing j ks)
