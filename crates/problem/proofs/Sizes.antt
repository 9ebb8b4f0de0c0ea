-- The rendering of a well-formed problem is short, far below the size that 11 refuses: no number has more than ten digits.
use Prim.Native.Nat.{ℕ, suc, ◌+◌, ◌*◌, ◌≤◌, ◌<◌}
use native.Mathlib.Omega.{arith}
use mathlib.Core.Bool.{Bool, true, false, not, ◌&&◌}
use mathlib.Core.List.{List, [], ◌∷◌, ◌++◌, map}
use lib.ListN.{length, length-append}
use lib.Dec.{eqb}
use Rattle.decimal.proofs.Digits.{width_below}
use Rattle.model.specs.declared.generator.Generator.{Generator}
use Rattle.model.specs.Instance.{Instance}
use Rattle.model.specs.Ranges.{All, InRange, GoodLoad, GoodUnit, WellFormed}
use Rattle.text.specs.Lines.{kind_problem, end_problem}
use Rattle.text.specs.Rendering.{comma_joined, shown, all_shown, rendered, plain_line, text_of}
use Rattle.problem.specs.Units.{unit_key, Tini_place, unit_numbers, unit_line}
use Rattle.problem.specs.Rendering.{periods_key, units_key, demand_key, spare_key, lines_after, render}

-- ---- one line

-- at most ten digits
abbrev Short : ℕ → Type 0
Short v = v < 10000000000

shown_short : (neg : Bool) (v : ℕ) → Short v → length (shown neg v) ≤ 11
shown_short true v h = omega (arith, width_below 9 v h)
shown_short false v h = omega (arith, width_below 9 v h)

joined_short : (m : ℕ) (neg : Bool) (k : ℕ) (vs : List ℕ) → All Short vs → length (comma_joined (all_shown m neg k vs)) ≤ 12 * length vs
joined_short m neg k [] a = omega arith
joined_short m neg k (v ∷ []) a = omega (arith, shown_short (neg && eqb k m) v a.0)
joined_short m neg k (v ∷ w ∷ vs) a =
    let rest = comma_joined (all_shown m neg (suc k) (w ∷ vs)) in
    omega (arith, shown_short (neg && eqb k m) v a.0, length-append (shown (neg && eqb k m) v) (44 ∷ rest), joined_short m neg (suc k) (w ∷ vs) a.1)

line_short : (key : List ℕ) (m : ℕ) (neg : Bool) (vs : List ℕ) → All Short vs → length (rendered key m neg vs) ≤ length key + 12 * length vs
line_short key m neg vs a = omega (arith, length-append key (comma_joined (all_shown m neg 1 vs)), joined_short m neg 1 vs a)

-- ---- the values are short

loads_short : (vs : List ℕ) → All GoodLoad vs → All Short vs
loads_short [] a = tt
loads_short (v ∷ vs) a = (let h = a.0.1 in omega arith, loads_short vs a.1)

numbers_short : (g : Generator) → InRange g → All Short (unit_numbers g)
numbers_short g R =
    (omega arith, (omega arith, (omega arith, (omega arith, (omega arith, (omega arith, (omega arith, (omega arith, (omega arith, (omega arith, (omega arith, (omega arith, (omega arith, (omega arith, (omega arith, tt)))))))))))))))

-- ---- the whole

text_short : (b : List ℕ) (bs : List (List ℕ)) (m n : ℕ) → length b ≤ m → length (text_of bs) ≤ n → length (text_of (b ∷ bs)) ≤ m + 1 + n
text_short b bs m n h k = omega (arith, length-append b (10 ∷ text_of bs))

units_short : (gs : List Generator) → All GoodUnit gs → length (text_of (map unit_line gs ++ (end_problem ∷ []))) ≤ 12 + 186 * length gs
unfolding unit_line
units_short [] a = omega arith
units_short (g ∷ gs) a =
    let r = units_short gs a.1 in
    let l = line_short unit_key Tini_place (not g.on) (unit_numbers g) (numbers_short g a.0.in_range) in
    omega (arith, text_short (unit_line g) (map unit_line gs ++ (end_problem ∷ [])) 185 (12 + 186 * length gs) (omega (arith, l)) r)

-- at most 7,184 bytes
pub render_short : (P : Instance) → WellFormed P → length (render P) ≤ 7184
unfolding render lines_after
render_short P W =
    let D = loads_short P.demand W.demand_in in
    let R = loads_short P.spare W.spare_in in
    let us = map unit_line P.units ++ (end_problem ∷ []) in
    let p = plain_line periods_key (P.periods ∷ []) in
    let u = plain_line units_key (length P.units ∷ []) in
    let d = plain_line demand_key P.demand in
    let r = plain_line spare_key P.spare in
    let n : 12 + 186 * length P.units ≤ 5964 = (let h = W.units_in.1 in omega arith) in
    let s₄ = text_short r us 582 5964 (omega (arith, line_short spare_key 0 false P.spare R, W.spare_long, W.periods_in.1)) (omega (arith, units_short P.units W.units_good)) in
    let s₃ = text_short d (r ∷ us) 583 6547 (omega (arith, line_short demand_key 0 false P.demand D, W.demand_long, W.periods_in.1)) s₄ in
    let s₂ = text_short u (d ∷ r ∷ us) 18 7131 (line_short units_key 0 false (length P.units ∷ []) (let h = W.units_in.1 in omega arith, tt)) s₃ in
    let s₁ = text_short p (u ∷ d ∷ r ∷ us) 20 7150 (line_short periods_key 0 false (P.periods ∷ []) (let h = W.periods_in.1 in omega arith, tt)) s₂ in
    text_short kind_problem (p ∷ u ∷ d ∷ r ∷ us) 12 7171 (omega arith) s₁
