-- Demand 3 leaves nothing open of a report: the first of the best is one, so one list of lines is due, and there is room for them or there is not. So any
-- way of reporting that meets it gives the same answer, the same docket and the same buffer after every list.
use Rattle.std.specs.Prelude.{Result, Ok, Err}
use mathlib.Core.Path.{◌≡◌, refl, sym, ap, subst, ◌∙◌}
use mathlib.Core.List.{List}
use mathlib.Core.Logic.{inl, inr}
use mathlib.Core.Option.{Option, none, some}
use Prim.Native.Nat.{ℕ}
use native.Mathlib.Omega.{arith}
use Rattle.model.proofs.Lists.{held_least, held_highest}
use Rattle.report.specs.Report.{report_lines}
use Rattle.refusal.specs.declared.Refusal.{Refusal}
use Rattle.tree.specs.Acceptance.{Bounded}
use Rattle.report.specs.StatedReports.{ReportStated, refused, its_length, report_stated}
use Rattle.docket.specs.declared.Docket.{Docket}
use Rattle.docket.specs.declared.Reported.{Reported}
use Rattle.docket.specs.Verdicts.{Costed, Verdict, schedules, trees}
use Rattle.docket.specs.Texts.{Are}
use Rattle.docket.specs.Lodging.{lodge_of}
use Rattle.docket.specs.Report.{report_of, buffer_of}
use Rattle.docket.specs.ReportDue.{IsCheapest, IsHighest, figures_due, ReportDue, WrittenOr43, Reports}
use Rattle.docket.specs.Demand3.{reached, Lodging, Reporting, Writing, Demand3, Same}
use Rattle.docket.proofs.BestSoFar.{one_first, cheaper_trans, cheaper_weak, raises_trans, raises_weak}
use Rattle.docket.proofs.Reached.{by_cost, by_bound}
use Rattle.docket.proofs.Demand3.{demand3}
use Rattle.docket.proofs.Determined.{no_first, same_verdicts, same_answers, same_docket}

-- ---- one list of lines

one_cheapest : (l : List Costed) (a b : Option Costed) → IsCheapest a l → IsCheapest b l → a ≡ b
one_cheapest l none none p q = refl
one_cheapest l none (some b) p q = absurd (no_first by_cost b l q p)
one_cheapest l (some a) none p q = absurd (no_first by_cost a l p q)
one_cheapest l (some a) (some b) p q =
    ap some (one_first by_cost (cheaper_trans (λ (x : Costed). x.cost)) (cheaper_weak (λ (x : Costed). x.cost)) (held_least (λ (x : Costed). x.cost)) a b l p q)

one_highest : (l : List Bounded) (a b : Option Bounded) → IsHighest a l → IsHighest b l → a ≡ b
one_highest l none none p q = refl
one_highest l none (some b) p q = absurd (no_first by_bound b l q p)
one_highest l (some a) none p q = absurd (no_first by_bound a l p q)
one_highest l (some a) (some b) p q =
    ap some (one_first by_bound (raises_trans (λ (x : Bounded). x.figures.bound)) (raises_weak (λ (x : Bounded). x.figures.bound)) (held_highest (λ (x : Bounded). x.figures.bound)) a b l p q)

module _ (vs : List Verdict) (l m : List ℕ) (R : ReportDue vs l) (S : ReportDue vs m) where
  pub same_figures : figures_due R.cheapest R.highest ≡ figures_due S.cheapest S.highest
  same_figures i =
      figures_due (one_cheapest (schedules vs) R.cheapest S.cheapest R.is_cheapest S.is_cheapest i)
      (one_highest (trees vs) R.highest S.highest R.is_highest S.is_highest i)

  pub one_report : l ≡ m
  one_report = R.lines_are ∙ ap report_lines same_figures ∙ sym S.lines_are

-- ---- one answer, one buffer

-- an answer is known by what it is told as
answer_of : ReportStated → Result ℕ Refusal
answer_of (refused n l u t) = Err (record { number = n; line = l; unit = u; period = t })
answer_of (its_length n) = Ok n

answer_back : (a : Result ℕ Refusal) → answer_of (report_stated a) ≡ a
unfolding answer_of
answer_back (Err r) = refl
answer_back (Ok n) = refl

module _ (lines b : List ℕ) (k : ℕ) (a a' : ReportStated) (c c' : List ℕ) where
  one_outcome : WrittenOr43 lines b k a c → WrittenOr43 lines b k a' c' → (a ≡ a') × (c ≡ c')
  one_outcome (inl p) (inl q) = (p.answer_is ∙ sym q.answer_is, p.buffer_is ∙ sym q.buffer_is)
  one_outcome (inl p) (inr q) = absurd (omega (arith, p.room, q.no_room))
  one_outcome (inr p) (inl q) = absurd (omega (arith, p.no_room, q.room))
  one_outcome (inr p) (inr q) = (p.answer_is ∙ sym q.answer_is, p.buffer_is ∙ sym q.buffer_is)

module _ (vs : List Verdict) (d : Docket) (b : List ℕ) (k : ℕ) (r r' : Reported) (c c' : List ℕ) where
  pub one_reported : Reports vs d b k r c → Reports vs d b k r' c' → (r ≡ r') × (c ≡ c')
  one_reported R S =
      let e = one_report vs R.lines S.lines R.lines_due S.lines_due in
      let o = one_outcome S.lines b k (report_stated r.answer) (report_stated r'.answer) c c'
      (subst (λ (l : List ℕ). WrittenOr43 l b k (report_stated r.answer) c) e R.outcome) S.outcome in
      let a : r.answer ≡ r'.answer = sym (answer_back r.answer) ∙ ap answer_of o.0 ∙ answer_back r'.answer in
      let d : r.docket ≡ r'.docket = R.docket_stays ∙ sym S.docket_stays in
      ((λ i. record { docket = d i; answer = a i }), o.1)

-- ---- after a list, by what its texts are

module _ (lodge : Lodging) {report : Reporting} {buffer : Writing} (D : Demand3 lodge report buffer) (texts : List (List ℕ)) (vs : List Verdict) (are : Are none texts vs)
    (b : List ℕ) (k : ℕ) where
  pub reports_then : Reports vs (reached lodge texts) b k (report (reached lodge texts) b k) (buffer (reached lodge texts) b k)
  reports_then =
      subst (λ (us : List Verdict). Reports us (reached lodge texts) b k (report (reached lodge texts) b k) (buffer (reached lodge texts) b k))
      (same_verdicts lodge D texts vs are) ((D texts).reports b k)

-- ---- any two that meet demand 3 are the same after every list

module _ (lodge lodge' : Lodging) {report report' : Reporting} {buffer buffer' : Writing} (D : Demand3 lodge report buffer) (D' : Demand3 lodge' report' buffer')
    (texts : List (List ℕ)) where
  both_same : (b : List ℕ) (k : ℕ) → (report (reached lodge texts) b k ≡ report' (reached lodge' texts) b k)
      × (buffer (reached lodge texts) b k ≡ buffer' (reached lodge' texts) b k)
  both_same b k =
      one_reported (D' texts).verdicts (reached lodge' texts) b k (report (reached lodge texts) b k) (report' (reached lodge' texts) b k)
      (buffer (reached lodge texts) b k) (buffer' (reached lodge' texts) b k)
      (subst (λ (d : Docket). Reports (D' texts).verdicts d b k (report (reached lodge texts) b k) (buffer (reached lodge texts) b k))
      (same_docket lodge lodge' D D' texts) (reports_then lodge D texts (D' texts).verdicts (D' texts).texts_are b k)) ((D' texts).reports b k)

  pub nothing_open : Same lodge lodge' report report' buffer buffer' texts
  nothing_open = record {
    same_answers = same_answers lodge lodge' D D' texts;
    same_docket = same_docket lodge lodge' D D' texts;
    same_reports = λ b k. (both_same b k).0;
    same_buffers = λ b k. (both_same b k).1;
  }

-- so what meets it lodges and reports as lodge_of, report_of and buffer_of do, from a fresh docket on
pub only_one : (lodge : Lodging) (report : Reporting) (buffer : Writing) → Demand3 lodge report buffer → (texts : List (List ℕ))
    → Same lodge lodge_of report report_of buffer buffer_of texts
only_one lodge report buffer D texts = nothing_open lodge lodge_of D demand3 texts
