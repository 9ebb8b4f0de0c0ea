-- The text of a problem.
use Rattle.std.specs.Prelude.{ℕ, List, [], ◌∷◌, ◌++◌, map, length}
use Rattle.model.specs.Instance.{Instance}
use Rattle.text.specs.Lines.{kind_problem, end_problem}
use Rattle.text.specs.Rendering.{plain_line, text_of}
use Rattle.problem.specs.Units.{unit_line}

-- ---- document 01, Texts: the keys of a problem's lines

-- periods=
abbrev pub periods_key : List ℕ
periods_key = 112 ∷ 101 ∷ 114 ∷ 105 ∷ 111 ∷ 100 ∷ 115 ∷ 61 ∷ []

-- units=
abbrev pub units_key : List ℕ
units_key = 117 ∷ 110 ∷ 105 ∷ 116 ∷ 115 ∷ 61 ∷ []

-- demand=
abbrev pub demand_key : List ℕ
demand_key = 100 ∷ 101 ∷ 109 ∷ 97 ∷ 110 ∷ 100 ∷ 61 ∷ []

-- spare=
abbrev pub spare_key : List ℕ
spare_key = 115 ∷ 112 ∷ 97 ∷ 114 ∷ 101 ∷ 61 ∷ []

-- ---- document 01, Texts: the lines of a problem in their order

-- the lines after the first, without their bytes 10
unfoldable pub lines_after : Instance → List (List ℕ)
lines_after P =
    plain_line periods_key (P.periods ∷ [])
    ∷ plain_line units_key (length P.units ∷ [])
    ∷ plain_line demand_key P.demand
    ∷ plain_line spare_key P.spare
    ∷ (map unit_line P.units ++ (end_problem ∷ []))

-- the whole text
unfoldable pub render : Instance → List ℕ
render P = text_of (kind_problem ∷ lines_after P)
