-- Document 01, Numbers that come from the text, and document 02, [1] and [6]: when a number refuses a line of a tree's text, whose first line is kind=tree.
use Rattle.std.specs.Prelude.{◌≡◌, Bool, List, [], ◌∷◌, ◌++◌, ℕ, suc, pred, ◌-◌, ◌≤◌, ◌<◌, length}
use Rattle.model.specs.Instance.{Instance}
use Rattle.model.specs.Ranges.{GoodWriter}
use Rattle.model.specs.Above.{free, Above, root, status, count}
use Rattle.model.specs.Ramps.{RampPrices}
use Rattle.model.specs.Tree.{Leaf, short, crowd, stuck, price, ramp, Tree, Narrows, GoodFork, ramped, GoodLeaf, LeafHolds, Limits, Multipliers, StepMultipliers}
use Rattle.text.specs.Lines.{Line, ended, later, lines_of, end_tree}
use Rattle.text.specs.Forms.{Form, form, plain}
use Rattle.text.specs.Rendering.{plain_line}
use Rattle.text.specs.Writer.{writer_form}
use Rattle.text.specs.LineRefused.{Renders, Unfit, LineRefused}
use Rattle.tree.specs.Rendering.{split_key, count_key, short_key, crowd_key, stuck_key, price_key, reserve_key, rampprice_key, up_key, down_key, fork_line, lines_after}
use Rattle.tree.specs.Places.{Part, priced, ramp_priced, with_steps, with_ups, node_at, part_at, LineAt, HoldsAmong}

-- ---- document 01, Texts: the forms of a tree's lines of numbers

-- the seven node lines
pub data LineKind : Type 0 where
  split_line count_line short_line crowd_line stuck_line price_line ramp_line : LineKind

-- a unit and a period, each from 1 on; a period and a count from 0 to I - 1; or a multiplier for each period
abbrev pub node_form : Instance → LineKind → Form
node_form P split_line = form split_key 0 (1 ∷ 1 ∷ []) (length P.units ∷ P.periods ∷ [])
node_form P count_line = form count_key 0 (1 ∷ 0 ∷ []) (P.periods ∷ (length P.units - 1) ∷ [])
node_form P short_line = plain short_key 1 1 P.periods
node_form P crowd_line = plain crowd_key 1 1 P.periods
node_form P stuck_line = plain stuck_key 1 1 (length P.units)
node_form P price_line = plain price_key P.periods 0 1000000000
node_form P ramp_line = plain rampprice_key P.periods 0 1000000000

-- the line of a leaf that is due after a part of it: the reserve line, or the up or the down line of a unit
abbrev pub part_form : Instance → Part → Form
part_form P (priced q) = plain reserve_key P.periods 0 1000000000
part_form P (ramp_priced q) = plain reserve_key P.periods 0 1000000000
part_form P (with_steps q s l) = plain up_key (pred P.periods) 0 1000000000
part_form P (with_ups q s l x) = plain down_key (pred P.periods) 0 1000000000

-- ---- what refuses a line

-- a writer and a tree
pub record WrittenTree : Type 0 where
  pub writer : ℕ
  pub tree : Tree

-- the lines of their text after the first
abbrev pub written_lines : WrittenTree → List (List ℕ)
written_lines v = lines_after v.writer v.tree

-- n refuses the line l where a node is due at depth d with A above it
pub data NodeBreaks (P : Instance) (A : Above) (d : ℕ) (l : Line) : ℕ → Type 0 where
  -- 12: it shows no values after any node's key
  no_node : ((k : LineKind) → Unfit (node_form P k) l 12) → NodeBreaks P A d l 12
  -- 14, 13: it shows values after the key of one, and they do not fit
  unfit : {n : ℕ} (k : LineKind) (neg : Bool) (vs : List ℕ) → Renders (node_form P k) l neg vs → Unfit (node_form P k) l n → NodeBreaks P A d l n
  -- 31: a split on a status that is fixed already
  again : (U t : ℕ) → U < length P.units → t < P.periods → l ≡ ended (fork_line (status U t)) → (A.marks U t ≡ free → ⊥) → NodeBreaks P A d l 31
  -- 32: a split deeper than 63, or a count
  deeper : (U t : ℕ) → GoodFork P A (status U t) → l ≡ ended (fork_line (status U t)) → 63 < d → NodeBreaks P A d l 32
  deeper_count : (t K : ℕ) → t < P.periods → K ≤ length P.units - 1 → l ≡ ended (fork_line (count t K)) → 63 < d → NodeBreaks P A d l 32
  -- 33, 34: a leaf that does not meet its rule
  short_fails : (t : ℕ) → GoodLeaf P (short t) → l ≡ ended (plain_line short_key (suc t ∷ [])) → (LeafHolds P A (short t) → ⊥) → NodeBreaks P A d l 33
  stuck_fails : (U : ℕ) → GoodLeaf P (stuck U) → l ≡ ended (plain_line stuck_key (suc U ∷ [])) → (LeafHolds P A (stuck U) → ⊥) → NodeBreaks P A d l 34
  -- 36: likewise
  crowd_fails : (t : ℕ) → GoodLeaf P (crowd t) → l ≡ ended (plain_line crowd_key (suc t ∷ [])) → (LeafHolds P A (crowd t) → ⊥) → NodeBreaks P A d l 36
  -- 37: a count below the lower one that stands, or not below the upper
  no_narrower : (t K : ℕ) → t < P.periods → K ≤ length P.units - 1 → d ≤ 63 → l ≡ ended (fork_line (count t K)) → (Narrows A t K → ⊥) → NodeBreaks P A d l 37

-- the line l, due after a part of a leaf, ends the leaf: a price leaf's reserve line; a ramp leaf's, where no unit has lines of its own; the down line
-- of the last unit
pub data Ends (P : Instance) (l : Line) : Part → Leaf → Type 0 where
  price_ends : (q s : List ℕ) → Multipliers P s → l ≡ ended (plain_line reserve_key s) → Ends P l (priced q) (price q s)
  ramp_ends : (q s : List ℕ) → ramped P ≡ 0 → Multipliers P s → l ≡ ended (plain_line reserve_key s) → Ends P l (ramp_priced q) (ramp q s [])
  steps_end : (q s : List ℕ) (k : List RampPrices) (x y : List ℕ) → ramped P ≡ suc (length k) → StepMultipliers P y → l ≡ ended (plain_line down_key y)
      → Ends P l (with_ups q s k x) (ramp q s (k ++ (record { up = x; down = y } ∷ [])))

-- n refuses the line l where a later line of a leaf is due, with A above the leaf, after a part of it
pub data PartBreaks (P : Instance) (A : Above) (l : Line) : Part → ℕ → Type 0 where
  unfit_part : {n : ℕ} {p : Part} → Unfit (part_form P p) l n → PartBreaks P A l p n
  -- 35: the leaf that this line ends does not meet its rule
  some_stuck : {p : Part} (x : Leaf) → Ends P l p x → (LeafHolds P A x → ⊥) → PartBreaks P A l p 35

module _ (P : Instance) where
  -- n refuses the line l where line k of the text is due
  pub data Breaks (v : WrittenTree) (k : ℕ) (l : Line) : ℕ → Type 0 where
    at_writer : {n : ℕ} → k ≡ 0 → Unfit writer_form l n → Breaks v k l n
    at_node : {n i d : ℕ} {A : Above} → k ≡ suc i → LineAt root 0 v.tree i (node_at A d) → NodeBreaks P A d l n → Breaks v k l n
    at_part : {n i : ℕ} {A : Above} {p : Part} → k ≡ suc i → LineAt root 0 v.tree i (part_at A p) → PartBreaks P A l p n → Breaks v k l n

  -- a writer in range and a tree within the limits
  abbrev pub InLimits : WrittenTree → ℕ → Type 0
  InLimits v k = GoodWriter v.writer × Limits P root 0 v.tree

  -- and each leaf that ends among the first k lines meets its rule: the writer's line is the first
  abbrev pub HoldsSoFar : WrittenTree → ℕ → Type 0
  HoldsSoFar v k = InLimits v k × HoldsAmong P root (k - 1) v.tree

  -- the lines before line m begin the text of a writer and a tree within the limits, and n refuses line m; ls are the lines after the first
  abbrev pub BrokenAt : ℕ → ℕ → List Line → Type 0
  BrokenAt n m ls = LineRefused written_lines end_tree InLimits Breaks n m ls

  -- and the leaves before it meet their rules: so it is the text that n refuses
  abbrev pub RefusedAt : List ℕ → ℕ → ℕ → Type 0
  RefusedAt text n m = LineRefused written_lines end_tree HoldsSoFar Breaks n m (later (lines_of text))
