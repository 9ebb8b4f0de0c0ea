-- Reports by computation, byte for byte, and what becomes of a small buffer.
use mathlib.Core.Path.{◌≡◌, refl}
use mathlib.Core.List.{List, [], ◌∷◌, flatten}
use Prim.Native.Nat.{ℕ}
use Rattle.decimal.specs.Decimal.{digits, digits_by}
use Rattle.refusal.specs.Refusals.{refusal_of}
use Rattle.writer.specs.Written.{figure}
use Rattle.writer.specs.declared.Figure.TheVariants.{Missing, Never, Number, Minus}
use Rattle.report.specs.Report.{report_lines, written_at, placed_at}
use Rattle.std.specs.Prelude.{Ok, Err}

-- document 01's example:
--     kind=report
--     cost=1980
--     costwriter=7
--     bound=1980
--     boundwriter=3
--     gap=0
--     end=report
abbrev pub example_text : List ℕ
example_text =
    107 ∷ 105 ∷ 110 ∷ 100 ∷ 61 ∷ 114 ∷ 101 ∷ 112 ∷ 111 ∷ 114 ∷ 116 ∷ 10
    ∷ 99 ∷ 111 ∷ 115 ∷ 116 ∷ 61 ∷ 49 ∷ 57 ∷ 56 ∷ 48 ∷ 10
    ∷ 99 ∷ 111 ∷ 115 ∷ 116 ∷ 119 ∷ 114 ∷ 105 ∷ 116 ∷ 101 ∷ 114 ∷ 61 ∷ 55 ∷ 10
    ∷ 98 ∷ 111 ∷ 117 ∷ 110 ∷ 100 ∷ 61 ∷ 49 ∷ 57 ∷ 56 ∷ 48 ∷ 10
    ∷ 98 ∷ 111 ∷ 117 ∷ 110 ∷ 100 ∷ 119 ∷ 114 ∷ 105 ∷ 116 ∷ 101 ∷ 114 ∷ 61 ∷ 51 ∷ 10
    ∷ 103 ∷ 97 ∷ 112 ∷ 61 ∷ 48 ∷ 10
    ∷ 101 ∷ 110 ∷ 100 ∷ 61 ∷ 114 ∷ 101 ∷ 112 ∷ 111 ∷ 114 ∷ 116 ∷ 10 ∷ []

pub example : report_lines (record { cost = Number 1980; costwriter = Number 7; bound = Number 1980; boundwriter = Number 3; gap = Number 0 }) ≡ example_text
unfolding report_lines flatten figure digits digits_by
example = refl

-- nothing is held:
--     kind=report
--     cost=none
--     costwriter=none
--     bound=none
--     boundwriter=none
--     gap=none
--     end=report
abbrev pub nothing_held_text : List ℕ
nothing_held_text =
    107 ∷ 105 ∷ 110 ∷ 100 ∷ 61 ∷ 114 ∷ 101 ∷ 112 ∷ 111 ∷ 114 ∷ 116 ∷ 10
    ∷ 99 ∷ 111 ∷ 115 ∷ 116 ∷ 61 ∷ 110 ∷ 111 ∷ 110 ∷ 101 ∷ 10
    ∷ 99 ∷ 111 ∷ 115 ∷ 116 ∷ 119 ∷ 114 ∷ 105 ∷ 116 ∷ 101 ∷ 114 ∷ 61 ∷ 110 ∷ 111 ∷ 110 ∷ 101 ∷ 10
    ∷ 98 ∷ 111 ∷ 117 ∷ 110 ∷ 100 ∷ 61 ∷ 110 ∷ 111 ∷ 110 ∷ 101 ∷ 10
    ∷ 98 ∷ 111 ∷ 117 ∷ 110 ∷ 100 ∷ 119 ∷ 114 ∷ 105 ∷ 116 ∷ 101 ∷ 114 ∷ 61 ∷ 110 ∷ 111 ∷ 110 ∷ 101 ∷ 10
    ∷ 103 ∷ 97 ∷ 112 ∷ 61 ∷ 110 ∷ 111 ∷ 110 ∷ 101 ∷ 10
    ∷ 101 ∷ 110 ∷ 100 ∷ 61 ∷ 114 ∷ 101 ∷ 112 ∷ 111 ∷ 114 ∷ 116 ∷ 10 ∷ []

pub nothing_held : report_lines (record { cost = Missing; costwriter = Missing; bound = Missing; boundwriter = Missing; gap = Missing }) ≡ nothing_held_text
unfolding report_lines flatten figure digits digits_by
nothing_held = refl

-- a bound of never, by 3:
--     kind=report
--     cost=none
--     costwriter=none
--     bound=never
--     boundwriter=3
--     gap=none
--     end=report
abbrev pub never_held_text : List ℕ
never_held_text =
    107 ∷ 105 ∷ 110 ∷ 100 ∷ 61 ∷ 114 ∷ 101 ∷ 112 ∷ 111 ∷ 114 ∷ 116 ∷ 10
    ∷ 99 ∷ 111 ∷ 115 ∷ 116 ∷ 61 ∷ 110 ∷ 111 ∷ 110 ∷ 101 ∷ 10
    ∷ 99 ∷ 111 ∷ 115 ∷ 116 ∷ 119 ∷ 114 ∷ 105 ∷ 116 ∷ 101 ∷ 114 ∷ 61 ∷ 110 ∷ 111 ∷ 110 ∷ 101 ∷ 10
    ∷ 98 ∷ 111 ∷ 117 ∷ 110 ∷ 100 ∷ 61 ∷ 110 ∷ 101 ∷ 118 ∷ 101 ∷ 114 ∷ 10
    ∷ 98 ∷ 111 ∷ 117 ∷ 110 ∷ 100 ∷ 119 ∷ 114 ∷ 105 ∷ 116 ∷ 101 ∷ 114 ∷ 61 ∷ 51 ∷ 10
    ∷ 103 ∷ 97 ∷ 112 ∷ 61 ∷ 110 ∷ 111 ∷ 110 ∷ 101 ∷ 10
    ∷ 101 ∷ 110 ∷ 100 ∷ 61 ∷ 114 ∷ 101 ∷ 112 ∷ 111 ∷ 114 ∷ 116 ∷ 10 ∷ []

pub never_held : report_lines (record { cost = Missing; costwriter = Missing; bound = Never; boundwriter = Number 3; gap = Missing }) ≡ never_held_text
unfolding report_lines flatten figure digits digits_by
never_held = refl

-- a gap below 0, as no docket that lodging reaches has:
--     kind=report
--     cost=5
--     costwriter=7
--     bound=35
--     boundwriter=3
--     gap=-30
--     end=report
abbrev pub negative_gap_text : List ℕ
negative_gap_text =
    107 ∷ 105 ∷ 110 ∷ 100 ∷ 61 ∷ 114 ∷ 101 ∷ 112 ∷ 111 ∷ 114 ∷ 116 ∷ 10
    ∷ 99 ∷ 111 ∷ 115 ∷ 116 ∷ 61 ∷ 53 ∷ 10
    ∷ 99 ∷ 111 ∷ 115 ∷ 116 ∷ 119 ∷ 114 ∷ 105 ∷ 116 ∷ 101 ∷ 114 ∷ 61 ∷ 55 ∷ 10
    ∷ 98 ∷ 111 ∷ 117 ∷ 110 ∷ 100 ∷ 61 ∷ 51 ∷ 53 ∷ 10
    ∷ 98 ∷ 111 ∷ 117 ∷ 110 ∷ 100 ∷ 119 ∷ 114 ∷ 105 ∷ 116 ∷ 101 ∷ 114 ∷ 61 ∷ 51 ∷ 10
    ∷ 103 ∷ 97 ∷ 112 ∷ 61 ∷ 45 ∷ 51 ∷ 48 ∷ 10
    ∷ 101 ∷ 110 ∷ 100 ∷ 61 ∷ 114 ∷ 101 ∷ 112 ∷ 111 ∷ 114 ∷ 116 ∷ 10 ∷ []

pub negative_gap : report_lines (record { cost = Number 5; costwriter = Number 7; bound = Number 35; boundwriter = Number 3; gap = Minus 30 }) ≡ negative_gap_text
unfolding report_lines flatten figure digits digits_by
negative_gap = refl

-- a negative bound:
--     kind=report
--     cost=5
--     costwriter=7
--     bound=-30
--     boundwriter=3
--     gap=35
--     end=report
abbrev pub negative_bound_text : List ℕ
negative_bound_text =
    107 ∷ 105 ∷ 110 ∷ 100 ∷ 61 ∷ 114 ∷ 101 ∷ 112 ∷ 111 ∷ 114 ∷ 116 ∷ 10
    ∷ 99 ∷ 111 ∷ 115 ∷ 116 ∷ 61 ∷ 53 ∷ 10
    ∷ 99 ∷ 111 ∷ 115 ∷ 116 ∷ 119 ∷ 114 ∷ 105 ∷ 116 ∷ 101 ∷ 114 ∷ 61 ∷ 55 ∷ 10
    ∷ 98 ∷ 111 ∷ 117 ∷ 110 ∷ 100 ∷ 61 ∷ 45 ∷ 51 ∷ 48 ∷ 10
    ∷ 98 ∷ 111 ∷ 117 ∷ 110 ∷ 100 ∷ 119 ∷ 114 ∷ 105 ∷ 116 ∷ 101 ∷ 114 ∷ 61 ∷ 51 ∷ 10
    ∷ 103 ∷ 97 ∷ 112 ∷ 61 ∷ 51 ∷ 53 ∷ 10
    ∷ 101 ∷ 110 ∷ 100 ∷ 61 ∷ 114 ∷ 101 ∷ 112 ∷ 111 ∷ 114 ∷ 116 ∷ 10 ∷ []

pub negative_bound : report_lines (record { cost = Number 5; costwriter = Number 7; bound = Minus 30; boundwriter = Number 3; gap = Number 35 }) ≡ negative_bound_text
unfolding report_lines flatten figure digits digits_by
negative_bound = refl

-- ---- two bytes in a buffer of four

in_the_middle : (written_at (1 ∷ 2 ∷ 3 ∷ 4 ∷ []) 1 (8 ∷ 9 ∷ []) ≡ Ok 2) × (placed_at (1 ∷ 2 ∷ 3 ∷ 4 ∷ []) 1 (8 ∷ 9 ∷ []) ≡ 1 ∷ 8 ∷ 9 ∷ 4 ∷ [])
unfolding written_at placed_at
in_the_middle = (refl, refl)

up_to_the_end : (written_at (1 ∷ 2 ∷ 3 ∷ 4 ∷ []) 2 (8 ∷ 9 ∷ []) ≡ Ok 2) × (placed_at (1 ∷ 2 ∷ 3 ∷ 4 ∷ []) 2 (8 ∷ 9 ∷ []) ≡ 1 ∷ 2 ∷ 8 ∷ 9 ∷ [])
unfolding written_at placed_at
up_to_the_end = (refl, refl)

-- one byte too few
past_the_end : (written_at (1 ∷ 2 ∷ 3 ∷ 4 ∷ []) 3 (8 ∷ 9 ∷ []) ≡ Err (refusal_of 43 0 0 0)) × (placed_at (1 ∷ 2 ∷ 3 ∷ 4 ∷ []) 3 (8 ∷ 9 ∷ []) ≡ 1 ∷ 2 ∷ 3 ∷ 4 ∷ [])
unfolding written_at placed_at
past_the_end = (refl, refl)
