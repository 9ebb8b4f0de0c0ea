-- A text judged line by line, each line by its tests in document 01's order: what the code follows. Which line is refused is said without it in LineRefused.antt.
use Rattle.std.specs.Prelude.{ℕ, ◌+◌, ◌≡◌, Bool, true, false, List, [], ◌∷◌, ◌++◌, length}
use Rattle.std.proofs.Math.Option.{Option, none, some}
use Rattle.text.specs.Lines.{Line}
use Rattle.text.specs.Course.{Found, refused, good}

-- ---- numbers that may refuse a line, each with its test, in the order in which they are tried

infix 90 ◌if◌
pub data Test : Type 0 where
  ◌if◌ : ℕ → Bool → Test

-- n is the first number whose test holds
pub data FirstTrue (n : ℕ) : List Test → Type 0 where
  this : {b : Bool} {ts : List Test} → b ≡ true → FirstTrue n (n if b ∷ ts)
  after : {m : ℕ} {b : Bool} {ts : List Test} → b ≡ false → FirstTrue n ts → FirstTrue n (m if b ∷ ts)

-- no test holds
abbrev pub None : List Test → Type 0
None [] = Unit {0}
None (n if b ∷ ts) = (b ≡ false) × None ts

-- the first number whose test holds, or 0
abbrev pub first_true : List Test → ℕ
first_true [] = 0
first_true (n if true ∷ ts) = n
first_true (n if false ∷ ts) = first_true ts

-- refused by the first number whose test holds; good where none does
abbrev pub found : {S : Type 0} → List Test → S → Found S
found [] s = good s
found (n if true ∷ ts) s = refused n
found (n if false ∷ ts) s = found ts s

-- ---- line by line: S says what is due, `tests` gives the tests of a line at its place and `next_due` what is due after a good one

module _ {S : Type 0} (tests : S → Line → List Test) (next_due : S → Line → S) where
  -- no test holds of these lines, each at its place; s says what is due before them and s' what is due after
  pub data Passed : S → List Line → S → Type 0 where
    none_yet : {s : S} → Passed s [] s
    one_more : {s s' s'' : S} {x : Line} {ls : List Line} → None (tests s x) → next_due s x ≡ s' → Passed s' ls s'' → Passed s (x ∷ ls) s''

  module _ {R : Type 0} (end : S → Option R) where
    -- the tests at the place before these lines: a missing line is 12, unless the text may end there
    abbrev pub tests_of_missing : Option R → List Test
    tests_of_missing none = 12 if true ∷ []
    tests_of_missing (some v) = []

    abbrev pub tests_before : S → List Line → List Test
    tests_before s [] = tests_of_missing (end s)
    tests_before s (x ∷ ls) = tests s x

    -- n refuses line m of lines of which the first is line l and s is due there: the lines before it pass, and n is the first
    -- number whose test holds of it
    pub record StopsAt (n m l : ℕ) (s : S) (ls : List Line) : Type 0 where
      pub before : List Line
      pub rest : List Line
      pub stands : S
      pub parts : ls ≡ before ++ rest
      pub passed : Passed s before stands
      pub place : m ≡ l + length before
      pub first : FirstTrue n (tests_before stands rest)

    -- every line passes, and the text may end there with v
    pub record AllPassed (v : R) (s : S) (ls : List Line) : Type 0 where
      pub last : S
      pub passed : Passed s ls last
      pub ends : end last ≡ some v
