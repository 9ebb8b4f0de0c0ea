-- 12, 14 and 13 of a line of numbers by renderings alone: a line is not 12 exactly where it is ended and renders some values, of whatever count and
-- size; then it is 14 by their count, and 13 by their ranges.
use Prim.Native.Nat.{ℕ, suc, ◌+◌, ◌-◌, ◌≤◌, ◌<◌}
use native.Mathlib.Omega.{arith}
use mathlib.Core.Path.{◌≡◌, refl, sym, ap, subst, ◌∙◌}
use mathlib.Core.Bool.{Bool, true, false, not, ◌&&◌}
use mathlib.Core.List.{List, [], ◌∷◌, ◌++◌}
use mathlib.Core.Logic.{◌↔◌}
use lib.ListN.{length, drop, get_or}
use lib.Seq.{drop-append_seam}
use lib.Dec.{eqb}
use borrow.Author.Tests.{not-false}
use Rattle.text.specs.Lines.{Line, missing, unended, ended, begins}
use Rattle.text.specs.Forms.{Form, cut_values, all_formed, sizes, any_minus, values_of, all_within, malformed, wrong_count, outside_range}
use Rattle.text.specs.LineRefused.{Renders}
use Rattle.text.specs.Rendering.{comma_joined, shown, all_shown}
use Rattle.text.proofs.Cuts.{and_both}
use Rattle.text.proofs.Keys.{begins_append, begins_text}
use Rattle.text.proofs.Joins.{joined_cut, cut_joined, values_some}
use Rattle.text.proofs.Shown.{sizes_shown, length_shown, all_shown_formed, all_formed_shown, minus_carried}
use Rattle.text.proofs.Bytes.{shown_no_commas}
use Rattle.text.proofs.Accepted.{rendered_line}

module _ (f : Form) (neg : Bool) (vs : List ℕ) (some : 0 < length vs)
    (sign : neg ≡ true → (1 ≤ f.minus) × ((f.minus < 1 + length vs) × (0 < get_or vs (f.minus - 1) 0))) where
  values_are : values_of f (rendered_line f neg vs) ≡ all_shown f.minus neg 1 vs
  values_are = ap cut_values (drop-append_seam f.key (comma_joined (all_shown f.minus neg 1 vs))) ∙ go vs some
    where
      go : (ws : List ℕ) → 0 < length ws → cut_values (comma_joined (all_shown f.minus neg 1 ws)) ≡ all_shown f.minus neg 1 ws
      go [] h = absurd (omega arith)
      go (w ∷ ws) h = cut_joined (shown (neg && eqb 1 f.minus) w) (all_shown f.minus neg 2 ws) (shown_no_commas f.minus neg 1 (w ∷ ws))

  not_twelve : malformed f (rendered_line f neg vs) ≡ false
  unfolding malformed
  not_twelve =
      let a : all_formed f.minus 1 (values_of f (rendered_line f neg vs)) ≡ true = ap (all_formed f.minus 1) values_are ∙ all_shown_formed f.minus neg 1 vs (λ e x y. (sign e).1.1) in
      simp (begins_append f.key (comma_joined (all_shown f.minus neg 1 vs)), a)

  count_is : wrong_count f (rendered_line f neg vs) ≡ not (eqb (length vs) (length f.lows))
  unfolding wrong_count
  count_is = ap (λ (n : ℕ). not (eqb n (length f.lows))) (ap (λ (x : List (List ℕ)). length x) values_are ∙ length_shown f.minus neg 1 vs)

  range_is : outside_range f (rendered_line f neg vs) ≡ not (all_within vs f.lows f.highs)
  unfolding outside_range
  range_is = ap (λ (x : List ℕ). not (all_within x f.lows f.highs)) (ap sizes values_are ∙ sizes_shown f.minus neg 1 vs)

length_sizes : (fs : List (List ℕ)) → length (sizes fs) ≡ length fs
length_sizes [] = refl
length_sizes (f ∷ fs) = ap suc (length_sizes fs)

formed_renders : (f : Form) (l : Line) → malformed f l ≡ false → Renders f l (any_minus (values_of f l)) (sizes (values_of f l))
unfolding malformed
formed_renders f missing m = absurd (let z : ◌≡◌ {A = ℕ} 0 1 = cc in omega arith)
formed_renders f (unended b) m = absurd (let z : ◌≡◌ {A = ℕ} 0 1 = cc in omega arith)
formed_renders f (ended b) m =
    let fs = values_of f (ended b) in
    let p = and_both (begins f.key b) (all_formed f.minus 1 fs) (not-false (begins f.key b && all_formed f.minus 1 fs) m) in
    let e = length_sizes fs in
    record {
      some = subst (λ (x : ℕ). 0 < x) (sym e) (values_some (drop (length f.key) b));
      sign = λ a. let w = minus_carried f.minus 1 fs p.1 a in (w.0, (subst (λ (x : ℕ). f.minus < 1 + x) (sym e) w.1.0, w.1.1));
      line = ap ended (begins_text f.key b p.0 ∙ ap (λ (x : List ℕ). f.key ++ x) (sym (joined_cut (drop (length f.key) b)) ∙ ap comma_joined (all_formed_shown f.minus 1 fs p.1)));
    }

-- 12 exactly where the line renders no values
pub twelve_is : (f : Form) (l : Line) → (malformed f l ≡ false) ↔ ((neg : Bool) × (vs : List ℕ) × Renders f l neg vs)
twelve_is f l = (
  λ m. (any_minus (values_of f l), sizes (values_of f l), formed_renders f l m),
  λ h. let r = h.2 in subst (λ (x : Line). malformed f x ≡ false) (sym r.line) (not_twelve f h.0 h.1 r.some r.sign),
)

-- 14 by their count, 13 by their ranges
pub fourteen_is : (f : Form) (l : Line) (neg : Bool) (vs : List ℕ) → Renders f l neg vs → wrong_count f l ≡ not (eqb (length vs) (length f.lows))
fourteen_is f l neg vs r = ap (wrong_count f) r.line ∙ count_is f neg vs r.some r.sign

pub thirteen_is : (f : Form) (l : Line) (neg : Bool) (vs : List ℕ) → Renders f l neg vs → outside_range f l ≡ not (all_within vs f.lows f.highs)
thirteen_is f l neg vs r = ap (outside_range f) r.line ∙ range_is f neg vs r.some r.sign
