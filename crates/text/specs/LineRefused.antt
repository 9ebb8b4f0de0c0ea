-- Document 01, Numbers that come from the text and from the docket: which line of a text is refused and by which number, said by how texts are written and
-- by nothing that a reader does. The lines before it begin the text of some value within the limits, and it is looked at where the next line of that text stands.
use Rattle.std.specs.Prelude.{ℕ, suc, ◌+◌, ◌-◌, ◌≤◌, ◌<◌, ◌≡◌, Bool, true, List, [], ◌∷◌, ◌++◌, map, length, get_or}
use Rattle.text.specs.Lines.{Line, ended, due}
use Rattle.text.specs.Forms.{Form}
use Rattle.text.specs.Rendering.{rendered}

-- ---- one line, where a line of numbers is due

-- the line is ended and shows these values after the key: at least one, and a minus only before the value that may carry it, which is then not 0
pub record Renders (f : Form) (l : Line) (neg : Bool) (vs : List ℕ) : Type 0 where
  pub some : 0 < length vs
  pub sign : neg ≡ true → (1 ≤ f.minus) × ((f.minus < 1 + length vs) × (0 < get_or vs (f.minus - 1) 0))
  pub line : l ≡ ended (rendered f.key f.minus neg vs)

-- each value is from its low to its high
abbrev pub InRanges : List ℕ → List ℕ → List ℕ → Type 0
InRanges [] ls hs = Unit {0}
InRanges (v ∷ vs) [] hs = ⊥
InRanges (v ∷ vs) (l ∷ ls) [] = ⊥
InRanges (v ∷ vs) (l ∷ ls) (h ∷ hs) = (l ≤ v) × ((v ≤ h) × InRanges vs ls hs)

-- the number by which the line does not fit the form
pub data Unfit (f : Form) (l : Line) : ℕ → Type 0 where
  -- 12: it shows no values at all after the key, of whatever count and size
  shows_none : ((neg : Bool) (vs : List ℕ) → Renders f l neg vs → ⊥) → Unfit f l 12
  -- 14: their count is not the one due
  miscounted : (neg : Bool) (vs : List ℕ) → Renders f l neg vs → (length vs ≡ length f.lows → ⊥) → Unfit f l 14
  -- 13: it is, and not every value is in its range
  out_of_range : (neg : Bool) (vs : List ℕ) → Renders f l neg vs → length vs ≡ length f.lows → (InRanges vs f.lows f.highs → ⊥) → Unfit f l 13

-- ---- a text of one kind, after its first line. `lines v` are the lines of the value v, the last of them the word `last`. `InLimits v k` says that v is within the
-- limits, and of a tree, where that is asked, that the leaves which end among its first k lines hold. `Breaks v k l n` says that line k of v, counted from 0, is a line
-- of numbers, and that n refuses the line l in its place

-- these lines begin those of v
pub record Beginning {Value : Type 0} (lines : Value → List (List ℕ)) (InLimits : Value → ℕ → Type 0) (ls : List Line) (v : Value) : Type 0 where
  pub more : List Line
  pub whole : ls ++ more ≡ map ended (lines v)
  pub within : InLimits v (length ls)

module _ {Value : Type 0} (lines : Value → List (List ℕ)) (last : List ℕ) (InLimits : Value → ℕ → Type 0) (Breaks : Value → ℕ → Line → ℕ → Type 0) where
  -- the number that refuses the first of the lines left where line k of v is due
  pub data Refuses (v : Value) (k : ℕ) (left : List Line) : ℕ → Type 0 where
    at_numbers : {n : ℕ} → Breaks v k (due left) n → Refuses v k left n
    -- 12: the last line is due and does not stand there
    at_last : suc k ≡ length (lines v) → (due left ≡ ended last → ⊥) → Refuses v k left 12
    -- 12: something stands after it
    behind_last : k ≡ length (lines v) → (left ≡ [] → ⊥) → Refuses v k left 12

  -- n refuses line m of a text with these lines after its first
  pub record LineRefused (n m : ℕ) (ls : List Line) : Type 0 where
    pub value : Value
    pub before : List Line
    pub left : List Line
    pub parts : ls ≡ before ++ left
    pub begins : Beginning lines InLimits before value
    pub place : m ≡ 2 + length before
    pub refuses : Refuses value (length before) left n
