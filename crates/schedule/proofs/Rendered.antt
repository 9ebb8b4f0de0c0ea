-- The lines after the first are all good exactly where they render a writer and rows in range, and then they give these. The run
-- lines go one by one, the first row off the front of the rows that are left.
use Prim.Native.Nat.{ℕ, zero, suc, ◌<◌}
use native.Mathlib.Omega.{arith}
use mathlib.Core.Path.{◌≡◌, refl, sym, ap, subst, ◌∙◌}
use mathlib.Core.Logic.{◌↔◌}
use mathlib.Core.List.{List, [], ◌∷◌, ◌++◌, map, append-nil}
use mathlib.Core.Option.{some}
use lib.ListN.{length, get_or}
use lib.Seq.{append_snoc}
use borrow.Author.Tests.{not-false}
use Rattle.model.specs.Instance.{Instance, Schedule}
use Rattle.model.specs.Ranges.{All, GoodOutput, GoodWriter, GoodRows}
use Rattle.text.specs.Lines.{Line, ended, is_line, end_schedule}
use Rattle.text.specs.Forms.{numbers_of}
use Rattle.text.specs.Rendering.{plain_line}
use Rattle.text.specs.Writer.{writer_key, writer_form}
use Rattle.text.specs.Course.{good}
use Rattle.text.specs.Tests.{Passed, none_yet, one_more, AllPassed}
use Rattle.text.proofs.Words.{word_is}
use Rattle.text.proofs.Plain.{plain_good, plain_numbers, plain_passed, one_value, one_between}
use Rattle.text.proofs.Courses.{good_more}
use Rattle.text.proofs.Verdicts.{form_found}
use Rattle.judge.proofs.Rows.{all_at}
use Rattle.schedule.specs.Rendering.{run_key, lines_of_rows, lines_after}
use Rattle.schedule.specs.Course.{Due, writer_due, run_due, end_due, nothing_due, runs_due, with_row, tests, next_due, judge, end}
use Rattle.schedule.specs.Refusals.{Written, written, run_form}
use Rattle.schedule.proofs.Alls.{all_from}

-- ---- one line at its place

module _ (P : Instance) where
  abbrev pub Passes : Due → List Line → Due → Type 0
  Passes s ls t = Passed (tests P) (next_due P) s ls t

  -- one good line in front of others
  pub also : {s s' s'' : Due} {x : Line} {ls : List Line} → judge P s x ≡ good s' → Passes s' ls s'' → Passes s (x ∷ ls) s''
  unfolding judge
  also e p = good_more (tests P) (next_due P) end e p

  -- T outputs in range are a good run line
  pub line_run : 0 < P.periods → (n : ℕ) (v : Written) (r : List ℕ) → length r ≡ P.periods → All GoodOutput r
      → judge P (run_due n v) (ended (plain_line run_key r)) ≡ good (runs_due n (with_row v r))
  unfolding judge
  line_run h n v r long ok =
      let x = ended (plain_line run_key r) in
      let each = all_at GoodOutput r 0 ok in
      form_found (run_form P.periods) x [] (next_due P (run_due n v) x) (plain_good run_key P.periods 0 10000 r h long each)
      ∙ ap (λ (vs : List ℕ). good (runs_due n (with_row v vs))) (plain_numbers run_key P.periods 0 10000 r h long each)

  pub line_end : (v : Written) → judge P (end_due v) (ended end_schedule) ≡ good (nothing_due v)
  unfolding judge
  line_end v = refl

  -- a writer in range is a good writer line
  pub line_writer : (w : ℕ) → GoodWriter w → judge P writer_due (ended (plain_line writer_key (w ∷ []))) ≡ good (runs_due (length P.units) (written w []))
  unfolding judge
  line_writer w ok =
      let x = ended (plain_line writer_key (w ∷ [])) in
      let each = one_between 1 65535 w ok.0 ok.1 in
      form_found writer_form x [] (next_due P writer_due x) (plain_good writer_key 1 1 65535 (w ∷ []) (omega arith) refl each)
      ∙ ap (λ (vs : List ℕ). good (runs_due (length P.units) (written (get_or vs 0 0) [])))
      (plain_numbers writer_key 1 1 65535 (w ∷ []) (omega arith) refl each)

-- ---- the run lines and the end line

-- these lines render n rows in range and the end line, and v is w with these rows
pub record RowLines (P : Instance) (n : ℕ) (ls : List Line) (w v : Written) : Type 0 where
  pub rows : Schedule
  pub lines : ls ≡ map ended (lines_of_rows rows)
  pub count : length rows ≡ n
  pub long : All (λ r. length r ≡ P.periods) rows
  pub in_range : All (λ r. All GoodOutput r) rows
  pub whole : v ≡ written w.writer (w.rows ++ rows)

module _ (P : Instance) where
  ended_there : (w v : Written) (ls : List Line) (last : Due) → Passes P (nothing_due w) ls last → end last ≡ some v → (ls ≡ []) × (w ≡ v)
  ended_there w v [] last none_yet e = (refl, cc)
  ended_there w v (y ∷ ls) last (one_more h d g) e = absurd (let q = h.0 in let z : ◌≡◌ {A = ℕ} 0 1 = cc in omega arith)

  good_rows : (n : ℕ) (w v : Written) (ls : List Line) (last : Due) → Passes P (runs_due n w) ls last → end last ≡ some v → RowLines P n ls w v
  good_rows zero w v [] last none_yet e = absurd (let z : ◌≡◌ {A = ℕ} 0 1 = cc in omega arith)
  good_rows zero w v (x ∷ ls) last (one_more h d g) e =
      let k : x ≡ ended end_schedule = word_is end_schedule x (not-false (is_line end_schedule x) h.0) in
      let z = ended_there w v ls last (subst (λ (s : Due). Passes P s ls last) (sym d) g) e in
      record {
        rows = [];
        lines = λ i. k i ∷ z.0 i;
        count = refl;
        long = tt;
        in_range = tt;
        whole = sym z.1 ∙ ap (written w.writer) (sym (append-nil w.rows));
      }
  good_rows (suc n) w v [] last none_yet e = absurd (let z : ◌≡◌ {A = ℕ} 0 1 = cc in omega arith)
  good_rows (suc n) w v (x ∷ ls) last (one_more h d g) e =
      let r = numbers_of (run_form P.periods) x in
      let p = plain_passed run_key P.periods 0 10000 x [] h in
      let m = good_rows n (with_row w r) v ls last (subst (λ (s : Due). Passes P s ls last) (sym d) g) e in
      record {
        rows = r ∷ m.rows;
        lines = λ i. p.line i ∷ m.lines i;
        count = ap suc m.count;
        long = (p.count, m.long);
        in_range = (all_from GoodOutput r p.range, m.in_range);
        whole = m.whole ∙ ap (written w.writer) (append_snoc w.rows r m.rows);
      }

  rows_good : 0 < P.periods → (w : Written) (s : Schedule) → All (λ r. length r ≡ P.periods) s → All (λ r. All GoodOutput r) s
      → Passes P (runs_due (length s) w) (map ended (lines_of_rows s)) (nothing_due (written w.writer (w.rows ++ s)))
  rows_good h w [] long ok =
      also P (line_end P w)
      (subst (λ (s : Schedule). Passes P (nothing_due w) [] (nothing_due (written w.writer s))) (sym (append-nil w.rows)) none_yet)
  rows_good h w (r ∷ s) long ok =
      also P (line_run P h (length s) w r long.0 ok.0)
      (subst (λ (t : Schedule). Passes P (runs_due (length s) (with_row w r)) (map ended (lines_of_rows s)) (nothing_due (written w.writer t)))
      (append_snoc w.rows r s) (rows_good h (with_row w r) s long.1 ok.1))

-- ---- the writer line, and all lines

module _ (P : Instance) where
  good_lines : (w : ℕ) (s : Schedule) (ls : List Line) (last : Due) → Passes P writer_due ls last → end last ≡ some (written w s)
      → (ls ≡ map ended (lines_after w s)) × (GoodWriter w × GoodRows P s)
  good_lines w s [] last none_yet e = absurd (let z : ◌≡◌ {A = ℕ} 0 1 = cc in omega arith)
  good_lines w s (x ∷ ls) last (one_more h d g) e =
      let vs = numbers_of writer_form x in
      let p = plain_passed writer_key 1 1 65535 x [] h in
      let rest = subst (λ (t : Due). Passes P t ls last) (sym d) g in
      let m = good_rows P (length P.units) (written (get_or vs 0 0) []) (written w s) ls last rest e in
      let u : get_or vs 0 0 ≡ w = ap (λ (v : Written). v.writer) (sym m.whole) in
      let r : m.rows ≡ s = ap (λ (v : Written). v.rows) (sym m.whole) in
      let one : vs ≡ w ∷ [] = one_value vs p.count ∙ ap (λ (n : ℕ). n ∷ []) u in (
        (λ i. (p.line ∙ ap (λ (ws : List ℕ). ended (plain_line writer_key ws)) one) i ∷ (m.lines ∙ ap (λ (t : Schedule). map ended (lines_of_rows t)) r) i),
        (
          subst GoodWriter u (p.range 0 (omega (arith, p.count))),
          subst (GoodRows P) r ((m.count, m.long), m.in_range),
        ),
      )

  -- every line is good exactly where they render the writer and the rows, which are in range
  pub lines_good_is : 0 < P.periods → (w : ℕ) (s : Schedule) (ls : List Line)
      → AllPassed (tests P) (next_due P) end (written w s) writer_due ls ↔ ((ls ≡ map ended (lines_after w s)) × (GoodWriter w × GoodRows P s))
  lines_good_is h w s ls = (λ a. good_lines w s ls a.last a.passed a.ends, back)
    where
      back : (ls ≡ map ended (lines_after w s)) × (GoodWriter w × GoodRows P s) → AllPassed (tests P) (next_due P) end (written w s) writer_due ls
      back (e, (ok, rows)) =
          let v = nothing_due (written w s) in
          let runs = subst (λ (n : ℕ). Passes P (runs_due n (written w [])) (map ended (lines_of_rows s)) v) rows.0.0
          (rows_good P h (written w []) s rows.0.1 rows.1) in
          rw e record { last = v; passed = also P (line_writer P w ok) runs; ends = refl }
