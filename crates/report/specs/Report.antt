-- Document 01, The docket and its report: the seven lines of five figures, and what a lent buffer then holds.
use Rattle.std.specs.Prelude.{Bool, cond, ℕ, ◌+◌, leb, length, take, drop, Result, Ok, Err}
use Rattle.std.specs.Borrow.{Bor}
use mathlib.Core.List.{List, [], ◌∷◌, ◌++◌, flatten}
use Rattle.refusal.specs.declared.Refusal.{Refusal}
use Rattle.refusal.specs.Refusals.{refusal_of}
use Rattle.writer.specs.Written.{line}
use Rattle.writer.specs.declared.Figure.{Figure}
use Rattle.report.specs.declared.Figures.{Figures}

-- ---- the seven lines

-- kind=report and byte 10
abbrev pub kind_line : List ℕ
kind_line = 107 ∷ 105 ∷ 110 ∷ 100 ∷ 61 ∷ 114 ∷ 101 ∷ 112 ∷ 111 ∷ 114 ∷ 116 ∷ 10 ∷ []

-- cost=
abbrev pub cost_key : List ℕ
cost_key = 99 ∷ 111 ∷ 115 ∷ 116 ∷ 61 ∷ []

-- costwriter=
abbrev pub cost_writer_key : List ℕ
cost_writer_key = 99 ∷ 111 ∷ 115 ∷ 116 ∷ 119 ∷ 114 ∷ 105 ∷ 116 ∷ 101 ∷ 114 ∷ 61 ∷ []

-- bound=
abbrev pub bound_key : List ℕ
bound_key = 98 ∷ 111 ∷ 117 ∷ 110 ∷ 100 ∷ 61 ∷ []

-- boundwriter=
abbrev pub bound_writer_key : List ℕ
bound_writer_key = 98 ∷ 111 ∷ 117 ∷ 110 ∷ 100 ∷ 119 ∷ 114 ∷ 105 ∷ 116 ∷ 101 ∷ 114 ∷ 61 ∷ []

-- gap=
abbrev pub gap_key : List ℕ
gap_key = 103 ∷ 97 ∷ 112 ∷ 61 ∷ []

-- end=report and byte 10
abbrev pub end_line : List ℕ
end_line = 101 ∷ 110 ∷ 100 ∷ 61 ∷ 114 ∷ 101 ∷ 112 ∷ 111 ∷ 114 ∷ 116 ∷ 10 ∷ []

-- a line for each key, that a reference points to, and its figure
abbrev pub shown_lines : List (Bor (List ℕ) × Figure) → List ℕ
shown_lines [] = []
shown_lines (p ∷ ps) = line p.0.now p.1 ++ shown_lines ps

-- the lines in their order
abbrev pub seven_lines : Figures → List (List ℕ)
seven_lines f =
    kind_line
    ∷ line cost_key f.cost
    ∷ line cost_writer_key f.costwriter
    ∷ line bound_key f.bound
    ∷ line bound_writer_key f.boundwriter
    ∷ line gap_key f.gap
    ∷ end_line
    ∷ []

unfoldable pub report_lines : Figures → List ℕ
report_lines f = flatten (seven_lines f)

-- ---- from the place that the caller gives

-- whether l fits into b from the place k on
abbrev pub has_room : List ℕ → ℕ → List ℕ → Bool
has_room b k l = leb (k + length l) (length b)

-- b with l from the place k on; the bytes outside stay
abbrev pub put_at : List ℕ → ℕ → List ℕ → List ℕ
put_at b k l = take k b ++ (l ++ drop (k + length l) b)

-- the length; or 43, where the place is beyond the end or too few bytes follow it
unfoldable pub written_at : List ℕ → ℕ → List ℕ → Result ℕ Refusal
written_at b k l = cond (has_room b k l) (Ok (length l)) (Err (refusal_of 43 0 0 0))

-- the buffer after it, which 43 leaves alone
unfoldable pub placed_at : List ℕ → ℕ → List ℕ → List ℕ
placed_at b k l = cond (has_room b k l) (put_at b k l) b
