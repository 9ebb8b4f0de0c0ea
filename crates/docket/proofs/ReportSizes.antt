-- How long a report is: every figure of a docket that lodging reaches has at most a minus and 20 digits.
use Rattle.std.specs.Prelude.{None, Option, Some}
use mathlib.Core.Path.{◌≡◌, ap}
use mathlib.Core.Bool.{true}
use mathlib.Core.List.{List}
use Prim.Native.Nat.{ℕ, suc, ◌^◌, ◌≤◌, ◌<◌}
use native.Mathlib.Omega.{arith}
use lib.IntN.{ℤ, pos, negsuc, ◌-ℤ◌}
use lib.Signed.{mag}
use lib.ListN.{length}
use borrow.Author.Tests.{ltb-true}
use Rattle.decimal.proofs.Digits.{width_below}
use Rattle.writer.specs.Written.{figure, figure_of}
use Rattle.writer.specs.declared.Figure.TheVariants.{Number}
use Rattle.report.proofs.Lines.{report_least, report_most}
use Rattle.docket.specs.declared.Docket.{Docket}
use Rattle.docket.specs.declared.held.CostBy.{CostBy}
use Rattle.docket.specs.declared.held.HeldBound.{HeldBound}
use Rattle.docket.specs.declared.held.HeldBound.TheVariants as bound
use Rattle.docket.specs.Docket.{fresh_docket, size_limit, small_cost, small_bound, sound}
use Rattle.docket.specs.Lodging.{trusted, lodge_of}
use Rattle.docket.specs.Demand3.{docket_after}
use Rattle.docket.specs.Report.{cost_shown, cost_writer_shown, bound_shown, bound_writer_shown, gap_shown, figures_of, report_text, text_shown}
use Rattle.docket.proofs.Differences.{small_size, gap_fits, sound_small}
use Rattle.docket.proofs.Lists.{reached_sound}
use Rattle.docket.proofs.Writers.{CostWriter, BoundWriter, Writers, reached_writers}
use Rattle.docket.proofs.Reports.{shown_reached}

-- ---- a figure

number_most : (n : ℕ) → n < 2 ^ 64 → length (figure (Number n)) ≤ 21
unfolding figure
number_most n h = omega (arith, width_below 19 n (omega arith))

whole_most : (z : ℤ) → mag z < 2 ^ 63 → length (figure (figure_of z)) ≤ 21
unfolding figure figure_of
whole_most (pos n) h = omega (arith, width_below 19 n (omega arith))
whole_most (negsuc n) h = omega (arith, width_below 19 (suc n) (omega arith))

-- ---- the five of a docket

cost_most : (h : Option CostBy) → small_cost h ≡ true → length (figure (cost_shown h)) ≤ 21
unfolding figure
cost_most None e = omega arith
cost_most (Some n) e = let k = ltb-true n.cost size_limit e in number_most n.cost (omega arith)

cost_writer_most : (h : Option CostBy) → CostWriter h → length (figure (cost_writer_shown h)) ≤ 21
unfolding figure
cost_writer_most None w = omega arith
cost_writer_most (Some n) w = number_most n.writer (omega (arith, w))

bound_most : (h : HeldBound) → small_bound h ≡ true → length (figure (bound_shown h)) ≤ 21
unfolding figure
bound_most bound.Nothing e = omega arith
bound_most (bound.Number n) e = whole_most n.value (omega (arith, small_size n.value e))
bound_most (bound.Never n) e = omega arith

bound_writer_most : (h : HeldBound) → BoundWriter h → length (figure (bound_writer_shown h)) ≤ 21
unfolding figure
bound_writer_most bound.Nothing w = omega arith
bound_writer_most (bound.Number n) w = number_most n.writer (omega (arith, w))
bound_writer_most (bound.Never n) w = number_most n.writer (omega (arith, w))

gap_most : (c : Option CostBy) (b : HeldBound) → small_cost c ≡ true → small_bound b ≡ true → length (figure (gap_shown c b)) ≤ 21
unfolding figure
gap_most None b e f = omega arith
gap_most (Some c) bound.Nothing e f = omega arith
gap_most (Some c) (bound.Number b) e f = whole_most (pos c.cost -ℤ b.value) (gap_fits c.cost b.value (ltb-true c.cost size_limit e) f).sfits
gap_most (Some c) (bound.Never b) e f = omega arith

-- ---- the report

-- at least 1 byte, of any docket
pub shown_least : (d : Docket) → 1 ≤ length (text_shown d)
shown_least d = omega (arith, report_least (figures_of (trusted d).held))

text_most : (d : Docket) → sound d ≡ true → Writers d.held → length (report_text d.held) ≤ 171
text_most d e w =
    let h = d.held in
    let s = sound_small d e in
    report_most (figures_of h) (cost_most h.cost s.0) (cost_writer_most h.cost w.0) (bound_most h.bound s.1)
    (bound_writer_most h.bound w.1) (gap_most h.cost h.bound s.0 s.1)

-- at most 171 of a docket that lodging reaches from a fresh one
pub reached_most : (texts : List (List ℕ)) → length (text_shown (docket_after lodge_of fresh_docket texts)) ≤ 171
reached_most texts =
    omega (arith, ap length (shown_reached texts), text_most (docket_after lodge_of fresh_docket texts) (reached_sound texts) (reached_writers texts))
