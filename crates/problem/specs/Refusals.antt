-- Document 01, Numbers that come from the text: when a number refuses a line of a problem's text, whose first line is kind=problem.
use Rattle.std.specs.Prelude.{ℕ, ◌+◌, ◌<◌, ◌≡◌, List, length}
use Rattle.model.specs.declared.generator.Generator.{Generator}
use Rattle.model.specs.Instance.{Instance}
use Rattle.model.specs.Ranges.{InRange, Ordered, WellFormed}
use Rattle.text.specs.Lines.{Line, ended, later, lines_of, end_problem}
use Rattle.text.specs.Forms.{Form, plain}
use Rattle.text.specs.LineRefused.{Unfit, LineRefused}
use Rattle.problem.specs.Units.{unit_form, unit_line}
use Rattle.problem.specs.Rendering.{periods_key, units_key, demand_key, spare_key, lines_after}

-- ---- document 01, Texts: the forms of a problem's lines of numbers

abbrev pub periods_form : Form
periods_form = plain periods_key 1 1 48

abbrev pub units_form : Form
units_form = plain units_key 1 1 32

-- T numbers
abbrev pub demand_form : ℕ → Form
demand_form T = plain demand_key T 0 320000

abbrev pub spare_form : ℕ → Form
spare_form T = plain spare_key T 0 320000

-- ---- document 01, Texts: the lines of numbers of the text of P in their order, counted from 0 after the first line

pub data FormAt (P : Instance) : ℕ → Form → Type 0 where
  periods : FormAt P 0 periods_form
  units : FormAt P 1 units_form
  demand : FormAt P 2 (demand_form P.periods)
  spare : FormAt P 3 (spare_form P.periods)
  unit : (u : ℕ) → u < length P.units → FormAt P (4 + u) unit_form

-- n refuses the line l where line k of the text of P is due
pub data Breaks (P : Instance) (k : ℕ) (l : Line) : ℕ → Type 0 where
  -- 12, 14, 13
  unfit : {n : ℕ} (f : Form) → FormAt P k f → Unfit f l n → Breaks P k l n
  -- 15: a unit line in range, and pL is above pU, Hsc above Csc, or p0 not as Tini has it
  disordered : FormAt P k unit_form → (g : Generator) → l ≡ ended (unit_line g) → InRange g → (Ordered g → ⊥) → Breaks P k l 15

-- however many lines are looked at, P is well-formed
abbrev pub InLimits : Instance → ℕ → Type 0
InLimits P k = WellFormed P

-- the lines before line m begin the text of a well-formed problem, and n refuses line m there
abbrev pub RefusedAt : List ℕ → ℕ → ℕ → Type 0
RefusedAt text n m = LineRefused lines_after end_problem InLimits Breaks n m (later (lines_of text))
