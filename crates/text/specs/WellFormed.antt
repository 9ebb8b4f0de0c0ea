-- Document 01, Texts, and document 02, [1]: when the text of a schedule or a tree is well-formed. It has at most 1,048,576 bytes, and no line, at the place where it stands, is refused by
-- 12 to 15, 31, 32 or 37; whether the rules are met and the leaves hold plays no part.
use Rattle.std.specs.Prelude.{ℕ, ◌≤◌, ◌≡◌, Bool, true, ◌&&◌, ◌||◌, List, leb, eqb, length}
use Rattle.text.specs.Lines.{Line, ended, line_at, later, lines_of}

-- 12 to 15, 31, 32, 37
abbrev pub of_form : ℕ → Bool
of_form n = (leb 12 n && leb n 15) || (eqb n 31 || eqb n 32 || eqb n 37)

-- `word` is the first line due; `Refused n m ls` says that n refuses line m of a text with the lines ls after its first
pub record Formed (word : List ℕ) (Refused : ℕ → ℕ → List Line → Type 0) (text : List ℕ) : Type 0 where
  -- 11 doesn't apply
  pub short : length text ≤ 1048576
  -- the first line is the one due
  pub first : line_at text 0 ≡ ended word
  -- no later line, judged at its place, breaks one of these numbers; a line has a place where the lines before it begin a text
  pub unbroken : (n m : ℕ) → of_form n ≡ true → Refused n m (later (lines_of text)) → ⊥
