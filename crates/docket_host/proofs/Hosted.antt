-- What calls on a state that holds a docket give: its answers, its reports, its outputs, and what it tells of the units that `short` takes, of the runs of a
-- price leaf and of forced statuses.
use mathlib.Core.Path.{◌≡◌, refl, sym, ap, ◌∙◌}
use mathlib.Core.Bool.{Bool, true, false, cond}
use mathlib.Core.List.{List}
use mathlib.Core.Logic.{◌⊎◌, inl, inr}
use mathlib.Core.Option.{none}
use Prim.Native.Nat.{ℕ, ◌+◌, ◌≤◌}
use native.Mathlib.Omega.{arith}
use lib.IntN.{ℤ}
use lib.ListN.{length}
use borrow.Author.Tests.{le-leb}
use Rattle.writer.specs.Written.{over}
use Rattle.answer.specs.StatedAnswers.{stated}
use Rattle.answer.specs.AnswerLines.{answer_line}
use Rattle.answer.specs.AnswerNumbers.{answer_numbers}
use Rattle.std.specs.Prelude.{Result, Ok, Err}
use Rattle.refusal.specs.declared.Refusal.{Refusal}
use Rattle.report.specs.StatedReports as told
use Rattle.report.specs.Report.{has_room, written_at}
use Rattle.refusal.specs.Refusals.{refusal_of}
use Rattle.docket.specs.declared.Docket.{Docket}
use Rattle.docket.specs.Verdicts.{Verdict}
use Rattle.docket.specs.Texts.{Are}
use Rattle.docket.specs.Lodging.{lodge_of}
use Rattle.docket.specs.Report.{text_shown, report_of, buffer_of}
use Rattle.docket.specs.ReportDue.{WrittenOr43, ReportDue}
use Rattle.docket.specs.Promised.{after}
use Rattle.docket.specs.Taking.{taken_of}
use Rattle.docket.specs.Drafting.{runs_of}
use Rattle.docket.specs.Forcing.{forced_of}
use Rattle.runs.specs.Drafts.{Drafted}
use Rattle.forced.specs.Answers.{Told}
use Rattle.docket.proofs.Lists.{reached_sound}
use Rattle.docket.proofs.ReportSizes.{reached_most}
use Rattle.docket.proofs.Promises.{reports}
use Rattle.state.specs.Kept.{State, state_next, HoldsDocket, outputs_count, outputs_of}
use Rattle.state.proofs.ReachedFits.{reached_fits}
use Rattle.state.proofs.Outputs.{outputs_long}
use Rattle.docket_host.specs.HostAnswer.{too_little_room}
use Rattle.docket_host.specs.Calls.{lends, lodge_room, lodge_answer, lodge_line, lodge_values, report_number, report_answer, report_bytes, outputs_room, outputs_answer, outputs_rows, taken_room, taken_number, taken_written, taken_answer, taken_numbers, runs_number, value_told, Tells, forced_number, Forces}
use Rattle.docket_host.specs.Lending.{Lending, called, HostReport}
use Rattle.docket_host.proofs.Calls.{lodge_by, report_by, outputs_by, taken_by}
use Rattle.docket_host.proofs.RunsCalls.{runs_done}
use Rattle.docket_host.proofs.ForcedCalls.{forced_done}

-- ---- one call

module _ (s : State) (d : Docket) (h : HoldsDocket s d) (c : Lending) (e : lends c.line c.values ≡ true) where
  room_is : lodge_room s.numbers s.rows c.line c.values ≡ true
  room_is = rw (h.room, e) refl

  -- the state is that after the text was lodged
  pub called_is : called s c ≡ state_next s c.text
  called_is =
      let b = lodge_by s.numbers s.rows c.text c.line c.values room_is h.is in
      rw (← b.1.0, ← b.1.1.0) refl

  -- the answer is the docket's
  pub length_is : lodge_answer s.numbers s.rows c.text c.line c.values ≡ length (answer_line (stated (lodge_of d c.text).answer))
  length_is =
      sym (lodge_by s.numbers s.rows c.text c.line c.values room_is h.is).0
      ∙ ap (λ (x : Docket). length (answer_line (stated (lodge_of x c.text).answer))) h.docket_is

  pub line_is : lodge_line s.numbers s.rows c.text c.line c.values ≡ over (answer_line (stated (lodge_of d c.text).answer)) c.line
  line_is =
      sym (lodge_by s.numbers s.rows c.text c.line c.values room_is h.is).1.1.1.0
      ∙ ap (λ (x : Docket). over (answer_line (stated (lodge_of x c.text).answer)) c.line) h.docket_is

  pub values_are : lodge_values s.numbers s.rows c.text c.line c.values ≡ over (answer_numbers (stated (lodge_of d c.text).answer)) c.values
  values_are =
      sym (lodge_by s.numbers s.rows c.text c.line c.values room_is h.is).1.1.1.1
      ∙ ap (λ (x : Docket). over (answer_numbers (stated (lodge_of x c.text).answer)) c.values) h.docket_is

-- ---- a report

-- what a report's answer states, as one number
abbrev number_told : told.ReportStated → ℕ
number_told (told.refused n l u t) = too_little_room
number_told (told.its_length n) = n

number_is : (a : Result ℕ Refusal) → report_number a ≡ number_told (told.report_stated a)
number_is (Err r) = refl
number_is (Ok n) = refl

reported : (lines b : List ℕ) (k : ℕ) (a : Result ℕ Refusal) (b' : List ℕ) → WrittenOr43 lines b k (told.report_stated a) b' → HostReport lines b k (report_number a) b'
reported lines b k a b' (inl p) = inl (p.room, number_is a ∙ ap number_told p.answer_is, p.buffer_is)
reported lines b k a b' (inr p) = inr (p.no_room, number_is a ∙ ap number_told p.answer_is, p.buffer_is)

module _ (s : State) (texts : List (List ℕ)) (h : HoldsDocket s (after texts)) (vs : List Verdict) (are : Are none texts vs) (b : List ℕ) (k : ℕ) where
  pub report_due : (lines : List ℕ) × ReportDue vs lines × HostReport lines b k (report_answer s.numbers s.rows b k) (report_bytes s.numbers s.rows b k)
  report_due =
      let r = reports texts vs are b k in
      let t = report_by s.numbers s.rows b k h.room h.is in
      let x = ap (λ (d : Docket). report_number (report_of d b k).answer) (sym h.docket_is) ∙ t.0 in
      let y = ap (λ (d : Docket). buffer_of d b k) (sym h.docket_is) ∙ t.1 in
      (r.lines, r.lines_due, rw (← x, ← y) (reported r.lines b k (report_of (after texts) b k).answer (buffer_of (after texts) b k) r.outcome))

-- every report fits 256 bytes
module _ (s : State) (texts : List (List ℕ)) (h : HoldsDocket s (after texts)) (b : List ℕ) (k : ℕ) where
  shown_there : k + 256 ≤ length b → report_number (report_of (after texts) b k).answer ≡ length (text_shown (after texts))
  unfolding report_of written_at
  shown_there room = rw (le-leb (k + length (text_shown (after texts))) (length b) (omega (arith, reached_most texts, room))) refl

  pub report_fits : k + 256 ≤ length b → report_answer s.numbers s.rows b k ≤ 171
  report_fits room =
      let t = sym (report_by s.numbers s.rows b k h.room h.is).0 ∙ ap (λ (d : Docket). report_number (report_of d b k).answer) h.docket_is in
      omega (arith, t, shown_there room, reached_most texts)

  -- its length is at most 171, or it is refused
  most_by : (t : Bool) (r : Refusal) (n : ℕ) → n ≤ 171
      → (report_number (cond t (Ok n) (Err r)) ≤ 171) ⊎ (report_number (cond t (Ok n) (Err r)) ≡ too_little_room)
  most_by true r n h = inl h
  most_by false r n h = inr refl

  pub report_length : (report_answer s.numbers s.rows b k ≤ 171) ⊎ (report_answer s.numbers s.rows b k ≡ too_little_room)
  unfolding report_of written_at
  report_length =
      let t = (report_by s.numbers s.rows b k h.room h.is).0 in
      rw (← t, h.docket_is) (most_by (has_room b k (text_shown (after texts))) (refusal_of 43 0 0 0) (length (text_shown (after texts))) (reached_most texts))

-- ---- the outputs

module _ (s : State) (texts : List (List ℕ)) (h : HoldsDocket s (after texts)) (o : List ℕ) (room : 1536 ≤ length o) where
  outputs_room_is : outputs_room s.numbers s.rows o ≡ true
  outputs_room_is = rw (h.room, le-leb 1536 (length o) room) refl

  pub outputs_told : (outputs_answer s.numbers s.rows o ≡ length (outputs_of (after texts))) × (outputs_rows s.numbers s.rows o ≡ over (outputs_of (after texts)) o)
  outputs_told =
      let t = outputs_by s.numbers s.rows o outputs_room_is h.is in
      let long = outputs_long (after texts) (reached_sound texts) (reached_fits texts).rows_long in
      (sym t.0 ∙ ap outputs_count h.docket_is ∙ sym long, sym t.1 ∙ ap (λ (d : Docket). over (outputs_of d) o) h.docket_is)

-- ---- the units that `short` takes

module _ (s : State) (d : Docket) (h : HoldsDocket s d) (period most : ℕ) (fixed o : List ℕ) (room : 2 ≤ length o) where
  taken_room_is : taken_room s.numbers s.rows o ≡ true
  taken_room_is = rw (h.room, le-leb 2 (length o) room) refl

  pub taken_told : (taken_answer s.numbers s.rows period most fixed o ≡ taken_number (taken_of d period most fixed))
      × (taken_numbers s.numbers s.rows period most fixed o ≡ taken_written (taken_of d period most fixed) o)
  taken_told =
      let t = taken_by s.numbers s.rows period most fixed o taken_room_is h.is in
      (sym t.0 ∙ ap (λ (x : Docket). taken_number (taken_of x period most fixed)) h.docket_is, sym t.1 ∙ ap (λ (x : Docket). taken_written (taken_of x period most fixed) o) h.docket_is)

-- ---- the runs of a price leaf

module _ (s : State) (d : Docket) (h : HoldsDocket s d) (q r fixed rows short : List ℕ) (value : List ℤ) (one : length value ≡ 1) where
  abbrev draft : Drafted
  draft = runs_of d q r fixed rows short

  pub runs_told : Tells s.numbers s.rows q r fixed rows short value (runs_number draft.answer) draft.rows draft.short (value_told draft.answer value)
  runs_told =
      runs_done s.numbers s.rows q r fixed rows short value h.room h.is one d (sym h.docket_is) draft.answer refl draft.rows refl draft.short refl
      (runs_number draft.answer) refl (value_told draft.answer value) refl

-- ---- forced statuses

module _ (s : State) (d : Docket) (h : HoldsDocket s d) (q r fixed : List ℕ) (values : List ℤ) (stuck : List ℕ) where
  abbrev entries : Told
  entries = forced_of d q r fixed values stuck

  pub forced_told : Forces s.numbers s.rows q r fixed values stuck (forced_number entries.answer) entries.values entries.stuck
  forced_told =
      forced_done s.numbers s.rows q r fixed values stuck h.room h.is d (sym h.docket_is) entries.answer refl entries.values refl entries.stuck refl
      (forced_number entries.answer) refl
