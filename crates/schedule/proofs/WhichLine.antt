-- The line at which a schedule's text is refused, and its number, by renderings alone: the lines that pass are exactly those that begin the text of some writer
-- and rows in range, since from every place that is reached a text can be completed, and how many lines are left says which is due.
use Prim.Native.Nat.{ℕ, zero, suc, ◌+◌, ◌-◌, ◌<◌}
use native.Mathlib.Omega.{arith}
use mathlib.Core.Path.{◌≡◌, refl, sym, ap, subst, ◌∙◌}
use mathlib.Core.Bool.{Bool}
use mathlib.Core.Logic.{◌↔◌, ◌⊎◌, inl, inr}
use mathlib.Core.List.{List, [], ◌∷◌, ◌++◌, map}
use lib.ListN.{length, length-append, length-map, replicate, length-replicate}
use Rattle.model.specs.Instance.{Instance, ◌at◌}
use Rattle.model.specs.Ranges.{GoodRows}
use Rattle.model.proofs.Zeros.{zeros_in}
use Rattle.text.specs.Lines.{Line, ended, end_schedule}
use Rattle.text.specs.Forms.{Form, numbers_of}
use Rattle.text.specs.Rendering.{plain_line}
use Rattle.text.specs.Writer.{writer_key, writer_form}
use Rattle.text.specs.Tests.{FirstTrue, None, none_yet, one_more, AllPassed, tests_before, StopsAt}
use Rattle.text.specs.LineRefused.{Unfit, Beginning, Refuses}
use Rattle.text.proofs.Courses as courses
use Rattle.text.proofs.Tests.{first_every}
use Rattle.text.proofs.Unfit.{Fits}
use Rattle.text.proofs.WhichLine as which
use Rattle.text.proofs.WhichLine.{Faithful}
use Rattle.schedule.specs.Rendering.{run_key}
use Rattle.schedule.specs.Course.{Due, writer_due, run_due, end_due, nothing_due, runs_due, with_row, tests, next_due, end}
use Rattle.schedule.specs.Refusals.{FormAt, writer, run, written_lines, Breaks, InLimits, BrokenAt, Written, written, run_form}
use Rattle.schedule.proofs.Rendered.{Passes, also, line_run, line_end, line_writer, lines_good_is}

module _ (P : Instance) (h : 0 < P.periods) where
  -- lines that complete a text from where s is due on
  pub record Completes (s : Due) : Type 0 where
    pub lines : List Line
    pub gives : Written
    pub all : AllPassed (tests P) (next_due P) end gives s lines

  from_runs : (n : ℕ) (v : Written) → Completes (runs_due n v)
  from_runs zero v = record { lines = ended end_schedule ∷ []; gives = v; all = record { last = nothing_due v; passed = also P (line_end P v) none_yet; ends = refl } }
  from_runs (suc n) v =
      let r : List ℕ = replicate P.periods 0 in
      let c = from_runs n (with_row v r) in
      record {
        lines = ended (plain_line run_key r) ∷ c.lines;
        gives = c.gives;
        all = record {
          last = c.all.last;
          passed = also P (line_run P h n v r (length-replicate P.periods 0) (zeros_in 10000 P.periods)) c.all.passed;
          ends = c.all.ends;
        };
      }

  pub completes : (s : Due) → Completes s
  completes writer_due =
      let c = from_runs (length P.units) (written 1 []) in
      record {
        lines = ended (plain_line writer_key (1 ∷ [])) ∷ c.lines;
        gives = c.gives;
        all = record { last = c.all.last; passed = also P (line_writer P 1 (omega arith, omega arith)) c.all.passed; ends = c.all.ends };
      }
  completes (run_due n v) = from_runs (suc n) v
  completes (end_due v) = from_runs zero v
  completes (nothing_due v) = record { lines = []; gives = v; all = record { last = nothing_due v; passed = none_yet; ends = refl } }

  abbrev Begins : List Line → Written → Type 0
  Begins ls v = Beginning written_lines (InLimits P) ls v

  -- ---- lines that pass begin a text

  passed_begins : (s : Due) (ls : List Line) → Passes P writer_due ls s → (v : Written) × Begins ls v
  passed_begins s ls p =
      let c = completes s in
      let v = c.gives in
      let g = (lines_good_is P h v.writer v.rows (ls ++ c.lines)).0 (record {
        last = c.all.last;
        passed = courses.passed_both (tests P) (next_due P) end ls c.lines p c.all.passed;
        ends = c.all.ends;
      }) in
      (v, record { more = c.lines; whole = g.0; within = g.1 })

  -- ---- what is due by the count of lines that are left

  abbrev rank : Due → ℕ
  rank writer_due = 2 + length P.units
  rank (run_due n v) = 2 + n
  rank (end_due v) = 1
  rank (nothing_due v) = 0

  -- a run line that is due is one of those of the units
  abbrev Among : Due → Type 0
  Among writer_due = Unit {0}
  Among (run_due n v) = n < length P.units
  Among (end_due v) = Unit {0}
  Among (nothing_due v) = Unit {0}

  rank_runs : (n : ℕ) (v : Written) → rank (runs_due n v) ≡ suc n
  rank_runs zero v = refl
  rank_runs (suc n) v = omega arith

  among_runs : (n : ℕ) (v : Written) → n < suc (length P.units) → Among (runs_due n v)
  among_runs zero v k = tt
  among_runs (suc n) v k = omega (arith, k)

  step : (s : Due) (x : Line) → None (tests P s x) → Among s → (rank s ≡ suc (rank (next_due P s x))) × Among (next_due P s x)
  step writer_due x n k = (let e = rank_runs (length P.units) (written (numbers_of writer_form x at 0) []) in omega (arith, e), among_runs (length P.units) _ (omega arith))
  step (run_due n v) x h k = (let e = rank_runs n (with_row v (numbers_of (run_form P.periods) x)) in omega (arith, e), among_runs n _ (omega (arith, k)))
  step (end_due v) x n k = (refl, tt)
  step (nothing_due v) x n k = absurd (let e = n.0 in let z : ◌≡◌ {A = ℕ} 0 1 = cc in omega arith)

  ranked : {s t : Due} (ls : List Line) → Among s → Passes P s ls t → (rank s ≡ length ls + rank t) × Among t
  ranked {s} [] k none_yet = (omega arith, k)
  ranked {s} {t} (x ∷ ls) k (one_more {s' = u} n e p) =
      let a = step s x n k in
      let r = ranked ls (subst Among e a.1) p in
      let c : rank s ≡ suc (length ls + rank t) = a.0 ∙ ap suc (ap rank e ∙ r.0) in
      (omega (arith, c), r.1)

  lines_long : (v : Written) → GoodRows P v.rows → length (written_lines v) ≡ 2 + length P.units
  lines_long v g =
      let a = length-append (map (plain_line run_key) v.rows) (end_schedule ∷ []) in
      let b = length-map v.rows (plain_line run_key) in
      let c = g.0.0 in
      omega (arith, a, b, c)

  -- s is due at line k of a text with I rows
  abbrev Stands : Written → ℕ → Due → Type 0
  Stands v k s = (2 + length P.units ≡ k + rank s) × Among s × (length (written_lines v) ≡ 2 + length P.units)

  begins_passed : (v : Written) (ls : List Line) → Begins ls v → (s : Due) × Stands v (length ls) s × Passes P writer_due ls s
  begins_passed v ls b =
      let a = (lines_good_is P h v.writer v.rows (ls ++ b.more)).1 (b.whole, b.within) in
      let p = which.passed_parts (tests P) (next_due P) end ls b.more a.passed in
      let r = ranked ls tt p.1 in
      (p.0, (r.0, r.1, lines_long v b.within.1), p.1)

  -- ---- the number

  forms : (k : ℕ) (f : Form) → FormAt P k f → ((k ≡ 0) × (f ≡ writer_form)) ⊎ ((u : ℕ) × (u < length P.units) × (k ≡ suc u) × (f ≡ run_form P.periods))
  forms k f writer = inl (refl, refl)
  forms k f (run u i) = inr (u, i, refl, refl)

  -- no other tests follow 12, 14, 13
  alone : (f : Form) (k n : ℕ) → FormAt P k f → ((g : Form) → FormAt P k g → g ≡ f) → (v : Written) (l : Line)
      → Breaks P v k l n ↔ (Unfit f l n ⊎ (((neg : Bool) × (vs : List ℕ) × Fits f l neg vs) × FirstTrue n []))
  alone f k n there only v l = (λ b. inl (subst (λ (g : Form). Unfit g l n) (only b.0 b.1) b.2), back)
    where
      back : Unfit f l n ⊎ (((neg : Bool) × (vs : List ℕ) × Fits f l neg vs) × FirstTrue n []) → Breaks P v k l n
      back (inl u) = (f, there, u)
      back (inr t) = absurd (first_every (λ _. ⊥) n [] tt t.1)

  beyond : (k : ℕ) → length P.units < k → (f : Form) → FormAt P k f → ⊥
  beyond k more f there = go (forms k f there)
    where
      go : ((k ≡ 0) × (f ≡ writer_form)) ⊎ ((u : ℕ) × (u < length P.units) × (k ≡ suc u) × (f ≡ run_form P.periods)) → ⊥
      go (inl e) = let q = e.0 in omega (arith, more, q)
      go (inr e) = let q = e.2 in let i = e.1 in omega (arith, more, q, i)

  refuses : (v : Written) (k : ℕ) (s : Due) → Stands v k s → (left : List Line) (n : ℕ)
      → FirstTrue n (tests_before (tests P) (next_due P) end s left) ↔ Refuses written_lines end_schedule (InLimits P) (Breaks P) v k left n
  refuses v k writer_due (r, a, l) left n =
      let z : k ≡ 0 = omega (arith, r) in
      which.numbers_refuse (tests P) (next_due P) end written_lines end_schedule (InLimits P) (Breaks P) v k writer_due left n writer_form (λ x. []) refl (λ x. refl)
      (omega (arith, l, z)) (alone writer_form k n (subst (λ (i : ℕ). FormAt P i writer_form) (sym z) writer) (λ g t. go g (forms k g t)) v)
    where
      go : (g : Form) → ((k ≡ 0) × (g ≡ writer_form)) ⊎ ((u : ℕ) × (u < length P.units) × (k ≡ suc u) × (g ≡ run_form P.periods)) → g ≡ writer_form
      go g (inl e) = e.1
      go g (inr e) = absurd (let q = e.2 in omega (arith, r, q))
  refuses v k (run_due i w) (r, a, l) left n =
      let u : k ≡ suc (length P.units - 1 - i) = omega (arith, r, a) in
      which.numbers_refuse (tests P) (next_due P) end written_lines end_schedule (InLimits P) (Breaks P) v k (run_due i w) left n (run_form P.periods) (λ x. []) refl (λ x. refl)
      (omega (arith, l, r)) (alone (run_form P.periods) k n
      (subst (λ (j : ℕ). FormAt P j (run_form P.periods)) (sym u) (run (length P.units - 1 - i) (omega (arith, a)))) (λ g t. go g (forms k g t)) v)
    where
      go : (g : Form) → ((k ≡ 0) × (g ≡ writer_form)) ⊎ ((u : ℕ) × (u < length P.units) × (k ≡ suc u) × (g ≡ run_form P.periods)) → g ≡ run_form P.periods
      go g (inl e) = absurd (let q = e.0 in omega (arith, r, a, q))
      go g (inr e) = e.3
  refuses v k (end_due w) (r, a, l) left n =
      which.last_refuses (tests P) (next_due P) end written_lines end_schedule (InLimits P) (Breaks P) v k (end_due w) left n refl (λ x. refl) (omega (arith, r, l))
      (λ x b. beyond k (omega (arith, r)) b.0 b.1)
  refuses v k (nothing_due w) (r, a, l) left n =
      which.end_refuses (tests P) (next_due P) end written_lines end_schedule (InLimits P) (Breaks P) v k (nothing_due w) left n w refl (λ x. refl) (omega (arith, r, l))
      (λ x b. beyond k (omega (arith, r)) b.0 b.1)

  -- the machine of Course.antt follows the texts of schedules
  follows : Faithful (tests P) (next_due P) end written_lines end_schedule (InLimits P) (Breaks P) writer_due Stands
  follows = record { passes = begins_passed; begins = passed_begins; refuses = refuses }

  module _ (n m : ℕ) (ls : List Line) where
    pub line_refused_is : StopsAt (tests P) (next_due P) end n m 2 writer_due ls ↔ BrokenAt P n m ls
    line_refused_is = which.line_refused_is (tests P) (next_due P) end written_lines end_schedule (InLimits P) (Breaks P) follows n m ls

    -- with the refused line the lines begin the text of no writer and rows in range
    pub with_it_none : (r : BrokenAt P n m ls) (x : Line) (rest : List Line) → r.left ≡ x ∷ rest → (v : Written) → Begins (r.before ++ (x ∷ [])) v → ⊥
    with_it_none = which.with_it_none (tests P) (next_due P) end written_lines end_schedule (InLimits P) (Breaks P) follows n m ls
