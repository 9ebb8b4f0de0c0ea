-- The run lines, one after the other: after k of them their rows fill the array, and the rest of the text gives what the whole gives.
use Prim.Native.Nat.{ℕ, suc, ◌+◌, ◌-◌, ◌*◌, ◌≤◌, ◌<◌}
use native.Mathlib.Nat.{sub-zero, mul-le-mul_right, mul-le-mul_left}
use native.Mathlib.Numerals.{add-one}
use native.Mathlib.Omega.{arith}
use mathlib.Core.Path.{◌≡◌, refl, ap, subst, ◌∙◌}
use mathlib.Core.Bool.{true, false}
use mathlib.Core.List.{List, [], ◌∷◌, ◌++◌}
use lib.ListN.{length, take, replicate}
use lib.Seq.{paste, take_all, length-take-le}
use Rattle.model.specs.declared.arrays.Problem.{Problem}
use Rattle.model.specs.Instance.{Instance}
use Rattle.model.specs.Held.{view, Valid}
use Rattle.model.specs.Ranges.{All, GoodOutput}
use Rattle.text.specs.Lines.{Line, line_at}
use Rattle.text.specs.Forms.{Form, numbers_of, form_refusal, place_after}
use Rattle.text.specs.Forms as forms
use Rattle.text.proofs.Fills.{PlainFilled}
use Rattle.judge.specs.Rows.{cut_rows}
use Rattle.schedule.specs.Rendering.{run_key}
use Rattle.schedule.specs.Course.{run_due, end_due, runs_due, with_row}
use Rattle.schedule.specs.Refusals.{Written, written, run_form}
use Rattle.schedule.specs.Storing.{refused_read, read_from, Filled}
use Rattle.schedule.specs.declared.ScheduleRead.{ScheduleRead}
use Rattle.schedule.proofs.LineByLine.{row_passed, row_stopped}
use Rattle.schedule.proofs.Alls.{all_from}
use Rattle.schedule.proofs.Filling.{filled_none, filled_more, filled_length, cut_more}

-- ---- room for the rows

pub units_viewed : (p : Problem) → Valid p → length p.generators ≡ 32 → length (view p).units ≡ p.units
unfolding view
units_viewed p valid e = length-take-le p.units p.generators (omega (arith, valid.units_fit))

-- k rows of a problem's units
pub rows_fit : (p : Problem) → Valid p → (k : ℕ) → k ≤ p.units → k * p.periods ≤ 1536
unfolding view
rows_fit p valid k h =
    let T : p.periods ≤ 48 = valid.well_formed.periods_in.1 in
    let m : k ≤ 32 = omega (arith, valid.units_fit) in
    omega (arith, mul-le-mul_right p.periods m, mul-le-mul_left 32 T)

-- ---- one line

module _ (P : Instance) (text : List ℕ) (i k units : ℕ) (v : Written) (left : k < units) where
  abbrev here : Line
  here = line_at text i

  abbrev run : Form
  run = run_form P.periods

  one_due : runs_due (units - k) v ≡ run_due (units - suc k) v
  one_due = let e : units - k ≡ suc (units - suc k) = omega arith in rw e refl

  run_stopped : forms.good_line run here ≡ false → read_from P text i (k + 3) (runs_due (units - k) v) ≡ refused_read (form_refusal run here) (k + 3)
  run_stopped g = rw one_due (row_stopped P text i (k + 3) (run_due (units - suc k) v) refl run refl g)

  run_passed : forms.good_line run here ≡ true
      → read_from P text i (k + 3) (runs_due (units - k) v)
      ≡ read_from P text (place_after here i) (suc k + 3) (runs_due (units - suc k) (with_row v (numbers_of run here)))
  run_passed g =
      let e : suc (k + 3) ≡ suc k + 3 = omega arith in
      rw (one_due, ← e) (row_passed P text i (k + 3) (run_due (units - suc k) v) refl run refl g)

-- the outputs of a good run line are in range
pub outputs_in : {T : ℕ} {l : Line} {at next : ℕ} {out : List ℕ} → PlainFilled run_key T 0 10000 l at next out → All GoodOutput out
outputs_in {out = out} g = all_from GoodOutput out g.range

-- ---- line by line

-- k run lines are read, their rows fill the array, and the rest of the text gives `whole`
pub record Reading (P : Instance) (text : List ℕ) (T w units : ℕ) (whole : ScheduleRead) (rows : List ℕ) (i k : ℕ) : Type 0 where
  pub some_left : k ≤ units
  pub filled : Filled k T rows
  pub same : whole ≡ read_from P text i (k + 3) (runs_due (units - k) (written w (cut_rows k T rows)))

module _ {P : Instance} {text : List ℕ} {T w units : ℕ} {whole : ScheduleRead} where
  -- before the first
  pub reading_none : {at : ℕ} → whole ≡ read_from P text at 3 (runs_due units (written w [])) → Reading P text T w units whole (replicate 1536 0) at 0
  unfolding cut_rows
  reading_none e = record { some_left = omega arith; filled = filled_none T; same = rw sub-zero e }

  module _ {rows : List ℕ} {i k : ℕ} (reading : Reading P text T w units whole rows i k) where
    -- after the last
    pub reading_done : units ≤ k → whole ≡ read_from P text i (units + 3) (end_due (written w (cut_rows units T rows)))
    reading_done h =
        let e : k ≡ units = omega (arith, reading.some_left) in
        let z : units - units ≡ 0 = omega arith in
        reading.same ∙ rw (e, z) refl

    pub reading_filled : units ≤ k → Filled units T rows
    reading_filled h = let e : k ≡ units = omega (arith, reading.some_left) in subst (λ (n : ℕ). Filled n T rows) e reading.filled

    module _ (long : P.periods ≡ T) (left : k < units) where
      -- at a line that is refused
      pub reading_stopped : {number : ℕ} → (forms.good_line (run_form T) (line_at text i) ≡ false) × (form_refusal (run_form T) (line_at text i) ≡ number) → whole ≡ refused_read number (k + 3)
      reading_stopped g =
          reading.same
          ∙ run_stopped P text i k units (written w (cut_rows k T rows)) left (rw long g.0)
          ∙ ap (λ (n : ℕ). refused_read n (k + 3)) (rw long g.1)

      -- past a good line, whose numbers are stored
      pub reading_more : {out : List ℕ} {next : ℕ} → PlainFilled run_key T 0 10000 (line_at text i) i next out
          → suc k * T ≤ 1536 → {stored : List ℕ} → stored ≡ paste rows (k * T) out (length out) → Reading P text T w units whole stored next (k + 1)
      reading_more {out} g fits e =
          let room : suc k * T ≤ length rows = omega (arith, filled_length k T rows reading.filled (omega arith)) in
          let all : take T out ≡ out = take_all T out (omega (arith, g.count)) in
          let enough : T ≤ length out = omega (arith, g.count) in
          let v = written w (cut_rows k T rows) in
          let f = filled_more k T rows out reading.filled room enough (rw all (outputs_in g)) in
          let c = cut_more k T rows out reading.filled room enough ∙ ap (λ (r : List ℕ). cut_rows k T rows ++ (r ∷ [])) (all ∙ g.values) in
          rw (e, g.count, add-one, g.next_is) record {
            some_left = left;
            filled = f;
            same = reading.same ∙ run_passed P text i k units v left (rw long g.line_good) ∙ rw (long, c) refl;
          }
