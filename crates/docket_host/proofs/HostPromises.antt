-- What a host is promised, on one page. A state is two slices, `numbers` and `rows`; v and w are what they hold. `after_calls (fresh_state v w) calls` is the
-- state after `docket_fresh` on any two slices that are long enough and then calls of `docket_lodge`, each with a text and with a line and values that
-- are lent for its answer; `after texts` and `answer texts text` are the docket and the answer of the page of promises
-- (crates/docket/proofs/Promises.antt), so that all of that page holds of them.
use Rattle.std.specs.Prelude.{Some}
use mathlib.Core.Path.{◌≡◌, refl}
use mathlib.Core.Bool.{true, false, cond}
use mathlib.Core.List.{List, [], flatten}
use mathlib.Core.Logic.{◌↔◌, ◌⊎◌}
use mathlib.Core.Option.{none, some}
use Prim.Native.Nat.{ℕ, ◌+◌, ◌≤◌, ◌<◌}
use lib.IntN.{ℤ}
use lib.ListN.{length, take, drop}
use Rattle.model.specs.Instance.{Instance, ◌at◌}
use Rattle.model.specs.Best.{FirstLeast}
use Rattle.writer.specs.Written.{over}
use Rattle.answer.specs.StatedAnswers.{Stated, stated}
use Rattle.answer.specs.AnswerLines.{answer_line}
use Rattle.answer.specs.AnswerNumbers.{answer_numbers}
use Rattle.answer.proofs.NumbersTell as numbers
use Rattle.docket.specs.declared.held.CostBy.{CostBy}
use Rattle.docket.specs.Docket.{sound}
use Rattle.docket.specs.Verdicts.{Costed, Verdict, schedules}
use Rattle.docket.specs.Texts.{Are}
use Rattle.docket.specs.Lodging.{lodge_of}
use Rattle.list.specs.Listing.{listing_text, listed_of}
use Rattle.docket.specs.Demand3.{Unheld}
use Rattle.docket.specs.ReportDue.{ReportDue}
use Rattle.docket.specs.Promised.{after, answer, given, Long}
use Rattle.docket.specs.Taking.{taken_of}
use Rattle.std.specs.Prelude.{Err}
use Rattle.runs.specs.declared.drafting.NoRuns.TheVariants.{Question}
use Rattle.runs.specs.declared.question.Unanswered.TheVariants.{NoProblem, Unfit}
use Rattle.docket.specs.Drafting.{runs_of}
use Rattle.docket.specs.Forcing.{forced_of}
use Rattle.docket.proofs.Promises as promised
use Rattle.state.specs.Layout.{numbers_count, rows_count, layout_mark, docket_in}
use Rattle.state.specs.Kept.{long, holds, kept_numbers, kept_rows, State, docket_kept, HoldsDocket, outputs_of}
use Rattle.state.proofs.Room as room
use Rattle.state.proofs.Arrays as arrays
use Rattle.state.proofs.Opening as opening
use Rattle.state.proofs.Again as again
use Rattle.state.proofs.ReachedFits as reached
use Rattle.state.proofs.Outputs as held
use Rattle.docket_host.specs.HostAnswer.{too_little_room, host_answer}
use Rattle.docket_host.specs.Calls.{no_docket, lends, lodge_room, fresh_answer, fresh_numbers, fresh_rows, lodge_answer, lodge_numbers, lodge_rows, lodge_line, lodge_values, report_answer, report_bytes, outputs_room, outputs_answer, outputs_rows, taken_room, taken_number, taken_written, taken_answer, taken_numbers, runs_number, value_told, runs_answer, Tells, forced_number, forced_answer, Forces}
use Rattle.docket_host.specs.Lending.{Lending, heard, fresh_state, after_calls, HostReport}
use Rattle.docket_host.proofs.Calls as call
use Rattle.docket_host.proofs.RunsCalls as runs_call
use Rattle.docket_host.proofs.ForcedCalls as forced_call
use Rattle.docket_host.proofs.Hosted as hosted
use Rattle.docket_host.proofs.AfterCalls as state
use Rattle.docket_host.proofs.HostAnswers as host
use Rattle.docket_host.proofs.docket_rules.Statement as rules
use Rattle.docket_host.proofs.docket_rules.Met as rules_met
use Rattle.docket_host.proofs.docket_numbers.Statement as numbers_asked
use Rattle.docket_host.proofs.docket_numbers.Met as numbers_met
use Rattle.docket_host.proofs.docket_rows.Statement as rows_asked
use Rattle.docket_host.proofs.docket_rows.Met as rows_met
use Rattle.docket_host.proofs.docket_fresh.Statement as fresh
use Rattle.docket_host.proofs.docket_fresh.Met as fresh_met
use Rattle.docket_host.proofs.docket_lodge.Statement as lodge
use Rattle.docket_host.proofs.docket_lodge.Met as lodge_met
use Rattle.docket_host.proofs.docket_report.Statement as report
use Rattle.docket_host.proofs.docket_report.Met as report_met
use Rattle.docket_host.proofs.docket_outputs.Statement as outputs
use Rattle.docket_host.proofs.docket_outputs.Met as outputs_met
use Rattle.docket_host.proofs.docket_units_taken.Statement as units_taken
use Rattle.docket_host.proofs.docket_units_taken.Met as units_taken_met
use Rattle.docket_host.proofs.docket_cheapest_runs.Statement as cheapest_runs
use Rattle.docket_host.proofs.docket_cheapest_runs.Met as cheapest_runs_met
use Rattle.docket_host.proofs.docket_forced_statuses.Statement as forced_statuses
use Rattle.docket_host.proofs.docket_forced_statuses.Met as forced_statuses_met
use Rattle.docket_host.proofs.docket_listing.Statement as listing
use Rattle.docket_host.proofs.docket_listing.Met as listing_met

-- ---- Every call ends, and none does anything undefined, whatever slices it is lent. The theorems ask nothing of the caller and fix all that comes
-- back (Contracts.antt), so that the definitions named below (specs/Calls.antt) are what the calls do

pub calls_end : {M : Type 1} → rules.statement M × numbers_asked.statement M × rows_asked.statement M × fresh.statement M × lodge.statement M × report.statement M
    × outputs.statement M × units_taken.statement M × cheapest_runs.statement M × forced_statuses.statement M × listing.statement M
calls_end = (rules_met.met, numbers_met.met, rows_met.met, fresh_met.met, lodge_met.met, report_met.met, outputs_met.met, units_taken_met.met, cheapest_runs_met.met, forced_statuses_met.met, listing_met.met)

-- ---- What is asked for. A state has room exactly in as many numbers and rows as the calls say, and slices with room hold a docket exactly where they begin
-- with the mark and the docket that they are read as is sound

pub room_is : (v w : List ℕ) → (long v w ≡ true) ↔ ((numbers_count ≤ length v) × (rows_count ≤ length w))
room_is v w = (room.long_room v w, λ h. room.room_long v w h.0 h.1)

pub holds_is : (v w : List ℕ) → (holds v w ≡ true) ↔ ((v at 0 ≡ layout_mark) × (sound (docket_in v w) ≡ true))
holds_is = opening.holds_is

-- A call of `docket_lodge` is lent enough for its answer exactly in 128 bytes for a line and 16 values
pub lends_is : (line values : List ℕ) → (lends line values ≡ true) ↔ ((128 ≤ length line) × (16 ≤ length values))
lends_is = call.lends_is

-- ---- Of any slices: with too little room, or where the state holds no docket, a call says so and leaves all

pub fresh_short : (v w : List ℕ) → long v w ≡ false → (too_little_room ≡ fresh_answer v w) × ((v ≡ fresh_numbers v w) × (w ≡ fresh_rows v w))
fresh_short = call.fresh_short

pub lodge_short : (v w text line values : List ℕ) → lodge_room v w line values ≡ false
    → (too_little_room ≡ lodge_answer v w text line values) × ((v ≡ lodge_numbers v w text line values) × ((w ≡ lodge_rows v w text line values)
    × ((line ≡ lodge_line v w text line values) × (values ≡ lodge_values v w text line values))))
lodge_short = call.lodge_short

pub lodge_none : (v w text line values : List ℕ) → lodge_room v w line values ≡ true → holds v w ≡ false
    → (no_docket ≡ lodge_answer v w text line values) × ((v ≡ lodge_numbers v w text line values) × ((w ≡ lodge_rows v w text line values)
    × ((line ≡ lodge_line v w text line values) × (values ≡ lodge_values v w text line values))))
lodge_none = call.lodge_none

pub report_short : (v w b : List ℕ) (k : ℕ) → long v w ≡ false → (too_little_room ≡ report_answer v w b k) × (b ≡ report_bytes v w b k)
report_short = call.report_short

pub outputs_short : (v w o : List ℕ) → outputs_room v w o ≡ false → (too_little_room ≡ outputs_answer v w o) × (o ≡ outputs_rows v w o)
outputs_short = call.outputs_short

pub report_none : (v w b : List ℕ) (k : ℕ) → long v w ≡ true → holds v w ≡ false → (no_docket ≡ report_answer v w b k) × (b ≡ report_bytes v w b k)
report_none = call.report_none

pub outputs_none : (v w o : List ℕ) → outputs_room v w o ≡ true → holds v w ≡ false → (no_docket ≡ outputs_answer v w o) × (o ≡ outputs_rows v w o)
outputs_none = call.outputs_none

pub taken_short : (v w : List ℕ) (period most : ℕ) (fixed o : List ℕ) → taken_room v w o ≡ false
    → (too_little_room ≡ taken_answer v w period most fixed o) × (o ≡ taken_numbers v w period most fixed o)
taken_short = call.taken_short

pub taken_none : (v w : List ℕ) (period most : ℕ) (fixed o : List ℕ) → taken_room v w o ≡ true → holds v w ≡ false
    → (no_docket ≡ taken_answer v w period most fixed o) × (o ≡ taken_numbers v w period most fixed o)
taken_none = call.taken_none

pub runs_small : (v w q s fixed rows short : List ℕ) (value : List ℤ) → long v w ≡ false → Tells v w q s fixed rows short value too_little_room rows short value
runs_small = runs_call.runs_small

pub runs_none : (v w q s fixed rows short : List ℕ) (value : List ℤ) → long v w ≡ true → holds v w ≡ false → Tells v w q s fixed rows short value no_docket rows short value
runs_none = runs_call.runs_empty

pub forced_small : (v w q s fixed : List ℕ) (values : List ℤ) (stuck : List ℕ) → long v w ≡ false → Forces v w q s fixed values stuck too_little_room values stuck
forced_small = forced_call.forced_small

pub forced_none : (v w q s fixed : List ℕ) (values : List ℤ) (stuck : List ℕ) → long v w ≡ true → holds v w ≡ false → Forces v w q s fixed values stuck no_docket values stuck
forced_none = forced_call.forced_empty

-- Of slices that hold a docket, whoever wrote them: no length of a line and no count of outputs is one of the two numbers

pub length_apart : (v w text line values : List ℕ) → lodge_room v w line values ≡ true → holds v w ≡ true → lodge_answer v w text line values < no_docket
length_apart = call.length_apart

pub outputs_apart : (v w o : List ℕ) → outputs_room v w o ≡ true → holds v w ≡ true → outputs_answer v w o < no_docket
outputs_apart = call.outputs_apart

-- The docket that they are read as has its arrays in full, as every docket value has, so that what Requested.antt says of every docket value is said of it
pub arrays_long : (v w : List ℕ) → long v w ≡ true → Long (docket_in v w)
arrays_long v w e =
    let enough = (room.long_room v w e).0 in
    (arrays.demand_long v w enough, arrays.spare_long v w enough, arrays.units_long v w enough)

-- What is told there is what the docket that the state is read as tells (`told_anywhere` of crates/docket/proofs/Requested.antt), by one of three numbers
pub taken_any : (v w : List ℕ) (period most : ℕ) (fixed o : List ℕ) → taken_room v w o ≡ true → holds v w ≡ true
    → (taken_number (taken_of (docket_in v w) period most fixed) ≡ taken_answer v w period most fixed o)
    × (taken_written (taken_of (docket_in v w) period most fixed) o ≡ taken_numbers v w period most fixed o)
taken_any = call.taken_by

pub taken_apart : (v w : List ℕ) (period most : ℕ) (fixed o : List ℕ) → taken_room v w o ≡ true → holds v w ≡ true → taken_answer v w period most fixed o ≤ 2
taken_apart = call.taken_apart

-- The same of the runs of a price leaf (`draft_anywhere` there), where the slice for the value is of length 1; where it is not, the question is unfit, or there is no problem.
-- What is told is at most 132
pub runs_any : (v w q s fixed rows short : List ℕ) (value : List ℤ) → long v w ≡ true → holds v w ≡ true → length value ≡ 1
    → let told = runs_of (docket_in v w) q s fixed rows short in
    Tells v w q s fixed rows short value (runs_number told.answer) told.rows told.short (value_told told.answer value)
runs_any v w q s fixed rows short value e i one =
    let told = runs_of (docket_in v w) q s fixed rows short in
    runs_call.runs_done v w q s fixed rows short value e i one (docket_in v w) refl told.answer refl told.rows refl told.short refl (runs_number told.answer) refl
    (value_told told.answer value) refl

pub runs_other : (v w q s fixed rows short : List ℕ) (value : List ℤ) → long v w ≡ true → holds v w ≡ true → (length value ≡ 1 → ⊥)
    → Tells v w q s fixed rows short value (runs_number (Err (Question (cond (docket_in v w).known Unfit NoProblem)))) rows short value
runs_other v w q s fixed rows short value e i other = runs_call.runs_other v w q s fixed rows short value e i other (docket_in v w) refl (docket_in v w).known refl

pub runs_apart : (v w q s fixed rows short : List ℕ) (value : List ℤ) → long v w ≡ true → holds v w ≡ true → runs_answer v w q s fixed rows short value ≤ 132
runs_apart = runs_call.runs_apart

-- The same of forced statuses (`forced_anywhere` there), by one of three numbers
pub forced_any : (v w q s fixed : List ℕ) (values : List ℤ) (stuck : List ℕ) → long v w ≡ true → holds v w ≡ true
    → let told = forced_of (docket_in v w) q s fixed values stuck in
    Forces v w q s fixed values stuck (forced_number told.answer) told.values told.stuck
forced_any = forced_call.forced_by

pub forced_apart : (v w q s fixed : List ℕ) (values : List ℤ) (stuck : List ℕ) → long v w ≡ true → holds v w ≡ true → forced_answer v w q s fixed values stuck ≤ 2
forced_apart = forced_call.forced_apart

-- Of any slices: a text that would be refused or passed leaves the state as it was
pub unheld_leaves : (v w text line values : List ℕ) → Unheld (stated (lodge_of (docket_in v w) text).answer)
    → (lodge_numbers v w text line values ≡ v) × (lodge_rows v w text line values ≡ w)
unheld_leaves = call.unheld_leaves

-- A docket that texts lead to, kept in slices, is had again whole
pub docket_again : (texts : List (List ℕ)) (v w : List ℕ) → docket_in (kept_numbers (after texts) v) (kept_rows (after texts) w) ≡ after texts
docket_again texts = again.docket_again (after texts) (reached.reached_fits texts)

-- An answer has 16 values; equal values, equal answers
pub values_long : (s : Stated) → length (answer_numbers s) ≡ 16
values_long = numbers.answer_numbers_long

pub values_tell : (s t : Stated) → answer_numbers s ≡ answer_numbers t → s ≡ t
values_tell = numbers.numbers_tell

-- ---- After every list of calls, from a fresh state. `heard calls` are the texts of those that were lent enough; the others do nothing. `docket_report`,
-- `docket_outputs`, `docket_units_taken`, `docket_cheapest_runs` and `docket_forced_statuses` only read the state, so that they may be called in between

module _ (v w : List ℕ) (room : long v w ≡ true) (calls : List Lending) where
  abbrev s : State
  s = after_calls (fresh_state v w) calls

  abbrev texts : List (List ℕ)
  texts = heard calls

  -- `docket_fresh` answered 0, whatever the slices held
  pub begun : fresh_answer v w ≡ 0
  begun = state.fresh_begins v w room

  -- the state holds the docket after the texts, and is nothing but that docket's: its numbers and rows, and behind them what the slices held
  pub state_holds : HoldsDocket s (after texts)
  state_holds = state.holds_heard v w room calls

  pub state_is : s ≡ docket_kept (after texts) v w
  state_is = state.state_is v w room calls

  pub rest_stays : (drop numbers_count s.numbers ≡ drop numbers_count v) × (drop rows_count s.rows ≡ drop rows_count w)
  rest_stays = state.rest_stays v w room calls

  -- moved to the front of other slices, it is the state that the same calls would have made there
  pub moved : (v' w' : List ℕ) → long v' w' ≡ true
      → (over (take numbers_count s.numbers) v' ≡ (after_calls (fresh_state v' w') calls).numbers)
      × (over (take rows_count s.rows) w' ≡ (after_calls (fresh_state v' w') calls).rows)
  moved v' w' r = state.moved v w room v' w' r calls

  -- One call more: the length and the line of the answer, and its values
  module _ (c : Lending) (e : lends c.line c.values ≡ true) where
    pub answer_length : lodge_answer s.numbers s.rows c.text c.line c.values ≡ length (answer_line (answer texts c.text))
    answer_length = hosted.length_is s (after texts) state_holds c e

    pub answer_is : lodge_line s.numbers s.rows c.text c.line c.values ≡ over (answer_line (answer texts c.text)) c.line
    answer_is = hosted.line_is s (after texts) state_holds c e

    pub answer_values : lodge_values s.numbers s.rows c.text c.line c.values ≡ over (answer_numbers (answer texts c.text)) c.values
    answer_values = hosted.values_are s (after texts) state_holds c e

  -- The outputs that are told are the held schedule's
  pub outputs_told : (o : List ℕ) → 1536 ≤ length o
      → (outputs_answer s.numbers s.rows o ≡ length (outputs_of (after texts))) × (outputs_rows s.numbers s.rows o ≡ over (outputs_of (after texts)) o)
  outputs_told = hosted.outputs_told s texts state_holds

  -- The units taken that are told are those of the docket after the texts (`units_told` of crates/docket/proofs/Requested.antt): 0, and at the front of what is lent 1 for
  -- short or 0 and how many; or 1 where no problem is known and 2 where the question does not fit it, and what is lent stays
  pub taken_told : (period most : ℕ) (fixed o : List ℕ) → 2 ≤ length o
      → (taken_answer s.numbers s.rows period most fixed o ≡ taken_number (taken_of (after texts) period most fixed))
      × (taken_numbers s.numbers s.rows period most fixed o ≡ taken_written (taken_of (after texts) period most fixed) o)
  taken_told = hosted.taken_told s (after texts) state_holds

  -- The runs, shortfalls and value of a price leaf that are told are those of the docket after the texts (`draft_told` there)
  pub runs_told : (q r fixed rows short : List ℕ) (value : List ℤ) → length value ≡ 1
      → let told = runs_of (after texts) q r fixed rows short in
      Tells s.numbers s.rows q r fixed rows short value (runs_number told.answer) told.rows told.short (value_told told.answer value)
  runs_told = hosted.runs_told s (after texts) state_holds

  -- The entries of forced statuses that are told are those of the docket after the texts (`forced_told` there)
  pub forced_told : (q r fixed : List ℕ) (values : List ℤ) (stuck : List ℕ)
      → let told = forced_of (after texts) q r fixed values stuck in
      Forces s.numbers s.rows q r fixed values stuck (forced_number told.answer) told.values told.stuck
  forced_told = hosted.forced_told s (after texts) state_holds

  -- A report's length is at most 171, or too little room is said; in 256 bytes there is room
  pub report_length : (b : List ℕ) (k : ℕ) → (report_answer s.numbers s.rows b k ≤ 171) ⊎ (report_answer s.numbers s.rows b k ≡ too_little_room)
  report_length = hosted.report_length s texts state_holds

  pub report_fits : (b : List ℕ) (k : ℕ) → k + 256 ≤ length b → report_answer s.numbers s.rows b k ≤ 171
  report_fits = hosted.report_fits s texts state_holds

  -- so let vs be what the texts are
  module _ (vs : List Verdict) (are : Are none texts vs) where
    -- A report, at every buffer and place: the seven lines due to the accepted texts stand there, or it is 43, and too little room is said
    pub reports : (b : List ℕ) (k : ℕ) → (lines : List ℕ) × ReportDue vs lines
        × HostReport lines b k (report_answer s.numbers s.rows b k) (report_bytes s.numbers s.rows b k)
    reports = hosted.report_due s texts state_holds vs are

    -- The outputs held: none while no schedule was accepted; else the rows, one after the other, of the first accepted schedule with the least cost
    pub no_outputs : schedules vs ≡ [] → outputs_of (after texts) ≡ []
    no_outputs e = held.no_outputs (after texts) ((promised.schedule_or_none texts vs are).1 e)

    pub held_outputs : (P : Instance) → given vs ≡ some P → (by : CostBy) → (after texts).held.cost ≡ Some by
        → (x : Costed) × FirstLeast (λ x. x.cost) x (schedules vs) × (outputs_of (after texts) ≡ flatten x.rows)
    held_outputs = held.outputs_after texts vs are

-- ---- The listing: its length, which is never the number for too little room; or that number

module _ (input output : List ℕ) where
  pub listing_short : length output < 1048576 → host_answer (listed_of input output) ≡ too_little_room
  listing_short = host.small_refused input output

  pub listing_length : 1048576 ≤ length output → host_answer (listed_of input output) ≡ length (listing_text input)
  listing_length = host.large_written input output

  pub listing_apart : 1048576 ≤ length output → host_answer (listed_of input output) < too_little_room
  listing_apart = host.told_apart input output
