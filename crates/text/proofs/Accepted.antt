-- A line is good exactly where it is the rendering of values that fit its form; these are the values that are read.
use Prim.Native.Nat.{ℕ, suc, ◌+◌, ◌-◌, ◌≤◌, ◌<◌}
use native.Mathlib.Omega.{arith}
use mathlib.Core.Path.{◌≡◌, refl, sym, ap, subst, ◌∙◌}
use mathlib.Core.Bool.{Bool, true, false, not, ◌&&◌}
use mathlib.Core.List.{List, [], ◌∷◌, ◌++◌}
use lib.ListN.{length, drop, get_or}
use lib.Seq.{drop-append_seam}
use lib.Dec.{eqb}
use borrow.Author.Tests.{eq-eqb, eqb-true, not-false}
use Rattle.text.specs.Lines.{Line, missing, unended, ended, lines_of, one_line, begins}
use Rattle.text.specs.Forms.{Form, cut_values, all_formed, sizes, any_minus, values_of, numbers_of, all_within, malformed, wrong_count, outside_range, good_line, place_after, pad_48, row_of}
use Rattle.text.specs.Rendering.{comma_joined, shown, all_shown, rendered}
use Rattle.std.specs.Prelude.{Ok}
use Rattle.text.proofs.Cuts.{and_both, cut_line}
use Rattle.text.proofs.Keys.{begins_append, begins_text}
use Rattle.text.proofs.Joins.{joined_cut, cut_joined, values_some}
use Rattle.text.proofs.Shown.{sizes_shown, length_shown, all_shown_formed, all_shown_minus, all_formed_shown, minus_carried}
use Rattle.text.proofs.Bytes.{shown_no_commas, rendered_one_line}
use Rattle.text.proofs.Verdicts.{form_passes, row_read}

-- values that fit a form: as many as are due, each in its range, and a minus only at the value that may carry it, which is
-- then not 0
pub record Fits (f : Form) (neg : Bool) (vs : List ℕ) : Type 0 where
  pub some : 0 < length vs
  pub count : length vs ≡ length f.lows
  pub range : all_within vs f.lows f.highs ≡ true
  pub sign : neg ≡ true → (1 ≤ f.minus) × ((f.minus < 1 + length vs) × (0 < get_or vs (f.minus - 1) 0))

-- the line whose bytes render the values
abbrev pub rendered_line : Form → Bool → List ℕ → Line
rendered_line f neg vs = ended (rendered f.key f.minus neg vs)

-- ---- a rendering of values that fit is good, and they are read

module _ (f : Form) (neg : Bool) (vs : List ℕ) (fits : Fits f neg vs) where
  pub values_rendered : values_of f (rendered_line f neg vs) ≡ all_shown f.minus neg 1 vs
  values_rendered = ap cut_values (drop-append_seam f.key (comma_joined (all_shown f.minus neg 1 vs))) ∙ go vs fits.some
    where
      go : (ws : List ℕ) → 0 < length ws → cut_values (comma_joined (all_shown f.minus neg 1 ws)) ≡ all_shown f.minus neg 1 ws
      go [] h = absurd (omega arith)
      go (w ∷ ws) h = cut_joined (shown (neg && eqb 1 f.minus) w) (all_shown f.minus neg 2 ws) (shown_no_commas f.minus neg 1 (w ∷ ws))

  pub rendered_numbers : numbers_of f (rendered_line f neg vs) ≡ vs
  rendered_numbers = ap sizes values_rendered ∙ sizes_shown f.minus neg 1 vs

  rendered_formed : malformed f (rendered_line f neg vs) ≡ false
  unfolding malformed
  rendered_formed =
      let a : all_formed f.minus 1 (values_of f (rendered_line f neg vs)) ≡ true = ap (all_formed f.minus 1) values_rendered ∙ all_shown_formed f.minus neg 1 vs (λ e x y. (fits.sign e).1.1) in
      simp (begins_append f.key (comma_joined (all_shown f.minus neg 1 vs)), a)

  rendered_count : wrong_count f (rendered_line f neg vs) ≡ false
  unfolding wrong_count
  rendered_count = ap not (eq-eqb (length (values_of f (rendered_line f neg vs))) (length f.lows) (ap (λ (x : List (List ℕ)). length x) values_rendered ∙ length_shown f.minus neg 1 vs ∙ fits.count))

  rendered_range : outside_range f (rendered_line f neg vs) ≡ false
  unfolding outside_range
  rendered_range = ap not (ap (λ (x : List ℕ). all_within x f.lows f.highs) rendered_numbers ∙ fits.range)

  pub rendered_good : good_line f (rendered_line f neg vs) ≡ true
  rendered_good = ((form_passes f (rendered_line f neg vs) []).0 (rendered_formed, (rendered_count, (rendered_range, tt)))).0

  -- reading it gives the values and the sign
  pub rendered_read : (at : ℕ) → row_of f (rendered_line f neg vs) at ≡ Ok (record { next = place_after (rendered_line f neg vs) at; minus = neg; values = pad_48 vs })
  rendered_read at =
      row_read f (rendered_line f neg vs) at rendered_good
      ∙ (λ i. Ok (record {
        next = place_after (rendered_line f neg vs) at;
        minus = (ap any_minus values_rendered ∙ all_shown_minus f.minus neg 1 vs (λ e. ((fits.sign e).0, (fits.sign e).1.0))) i;
        values = pad_48 (rendered_numbers i);
      }))

  -- it stands as one line in a text that has its bytes and byte 10
  pub rendered_cut : (rest : List ℕ) → one_line f.key ≡ true → lines_of (rendered f.key f.minus neg vs ++ (10 ∷ rest)) ≡ rendered_line f neg vs ∷ lines_of rest
  rendered_cut rest one = cut_line (rendered f.key f.minus neg vs) rest (rendered_one_line f.key f.minus neg vs one)

-- ---- a good line is the rendering of what is read, which fits

pub record Accepted (f : Form) (l : Line) : Type 0 where
  pub line : l ≡ rendered_line f (any_minus (values_of f l)) (sizes (values_of f l))
  pub fits : Fits f (any_minus (values_of f l)) (sizes (values_of f l))

length_sizes : (fs : List (List ℕ)) → length (sizes fs) ≡ length fs
length_sizes [] = refl
length_sizes (f ∷ fs) = ap suc (length_sizes fs)

pub good_rendered : (f : Form) (l : Line) → good_line f l ≡ true → Accepted f l
unfolding malformed wrong_count outside_range
good_rendered f l g = let r = (form_passes f l []).1 (g, tt) in go l r.0 r.1.0 r.1.1.0
  where
    go : (l : Line) → malformed f l ≡ false → wrong_count f l ≡ false → outside_range f l ≡ false → Accepted f l
    go missing m c r = absurd (let z : ◌≡◌ {A = ℕ} 0 1 = cc in omega arith)
    go (unended b) m c r = absurd (let z : ◌≡◌ {A = ℕ} 0 1 = cc in omega arith)
    go (ended b) m c r =
        let fs = values_of f (ended b) in
        let p = and_both (begins f.key b) (all_formed f.minus 1 fs) (not-false (begins f.key b && all_formed f.minus 1 fs) m) in
        let n : length fs ≡ length f.lows = eqb-true (length fs) (length f.lows) (not-false (eqb (length fs) (length f.lows)) c) in
        let e = length_sizes fs in
        record {
          line = ap ended (begins_text f.key b p.0 ∙ ap (λ (x : List ℕ). f.key ++ x) (sym (joined_cut (drop (length f.key) b)) ∙ ap comma_joined (all_formed_shown f.minus 1 fs p.1)));
          fits = record {
            some = subst (λ (x : ℕ). 0 < x) (sym e) (values_some (drop (length f.key) b));
            count = e ∙ n;
            range = not-false (all_within (sizes fs) f.lows f.highs) r;
            sign = λ a. let w = minus_carried f.minus 1 fs p.1 a in (w.0, (subst (λ (x : ℕ). f.minus < 1 + x) (sym e) w.1.0, w.1.1));
          };
        }
