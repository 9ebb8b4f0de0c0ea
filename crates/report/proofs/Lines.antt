-- How long the lines are.
use Prim.Native.Nat.{ℕ, ◌+◌, ◌≤◌}
use native.Mathlib.Omega.{arith}
use mathlib.Core.Path.{◌≡◌, refl}
use mathlib.Core.List.{List, [], ◌∷◌, ◌++◌, append_assoc, flatten}
use lib.ListN.{length, length-append}
use Rattle.writer.specs.Written.{figure, line}
use Rattle.writer.proofs.Figures.{line_length}
use Rattle.writer.specs.declared.Figure.{Figure}
use Rattle.report.specs.declared.Figures.{Figures}
use Rattle.report.specs.Report.{kind_line, cost_key, cost_writer_key, bound_key, bound_writer_key, gap_key, end_line, seven_lines, report_lines}

none_length : length (flatten {A = ℕ} []) ≡ 0
unfolding flatten
none_length = refl

flatten_length : (l : List ℕ) (ls : List (List ℕ)) → length (flatten (l ∷ ls)) ≡ length l + length (flatten ls)
unfolding flatten
flatten_length l ls = length-append l (flatten ls)

line_first : (key : List ℕ) (x : Figure) (ls : List (List ℕ)) → length (flatten (line key x ∷ ls)) ≡ length key + length (figure x) + 1 + length (flatten ls)
line_first key x ls = omega (arith, flatten_length (line key x) ls, line_length key x)

-- the keys, the equals signs and the ends of the lines are 66 bytes
pub report_length : (f : Figures)
    → length (report_lines f)
    ≡ 66 + length (figure f.cost) + length (figure f.costwriter) + length (figure f.bound) + length (figure f.boundwriter) + length (figure f.gap)
unfolding report_lines
report_length f =
    let from6 = end_line ∷ [] in
    let from5 = line gap_key f.gap ∷ from6 in
    let from4 = line bound_writer_key f.boundwriter ∷ from5 in
    let from3 = line bound_key f.bound ∷ from4 in
    let from2 = line cost_writer_key f.costwriter ∷ from3 in
    let from1 = line cost_key f.cost ∷ from2 in
    let all : length (report_lines f) ≡ length (flatten (seven_lines f)) = refl in
    let l6 = flatten_length end_line [] in
    let l5 = line_first gap_key f.gap from6 in
    let l4 = line_first bound_writer_key f.boundwriter from5 in
    let l3 = line_first bound_key f.bound from4 in
    let l2 = line_first cost_writer_key f.costwriter from3 in
    let l1 = line_first cost_key f.cost from2 in
    let l0 = flatten_length kind_line from1 in
    omega (arith, all, l0, l1, l2, l3, l4, l5, l6, none_length)

-- at least 66 bytes, and at most 171 where no figure has more than a minus and 20 digits
pub report_least : (f : Figures) → 66 ≤ length (report_lines f)
report_least f = omega (arith, report_length f)

pub report_most : (f : Figures) → length (figure f.cost) ≤ 21 → length (figure f.costwriter) ≤ 21 → length (figure f.bound) ≤ 21
    → length (figure f.boundwriter) ≤ 21 → length (figure f.gap) ≤ 21
    → length (report_lines f) ≤ 171
report_most f a b c d e = omega (arith, report_length f)

-- the lines of the figures
abbrev pub figure_lines : Figures → List ℕ
figure_lines f =
    line cost_key f.cost ++ (line cost_writer_key f.costwriter ++ (line bound_key f.bound ++ (line bound_writer_key f.boundwriter ++ (line gap_key f.gap ++ []))))

-- the first line, those of the figures, the last
pub report_parts : (f : Figures) → report_lines f ≡ (kind_line ++ figure_lines f) ++ end_line
unfolding report_lines flatten
report_parts f = simp append_assoc
