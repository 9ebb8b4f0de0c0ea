-- What a call does, by what its parts gave: one law for each way through the code.
use mathlib.Core.Path.{◌≡◌, refl, ap, ◌∙◌}
use mathlib.Core.Bool.{Bool, true, false, cond}
use mathlib.Core.List.{List, [], ◌∷◌}
use mathlib.Core.Logic.{◌↔◌}
use Prim.Native.Nat.{ℕ, ◌≤◌, ◌<◌}
use native.Mathlib.Omega.{arith}
use lib.Dec.{ltb, leb}
use lib.ListN.{length, set}
use lib.Seq.{paste}
use borrow.Author.Tests.{ltb-false, leb-true, le-ltb, le-leb}
use Rattle.layout.proofs.Fronts.{front_more}
use Rattle.writer.specs.Written.{over}
use Rattle.answer.specs.StatedAnswers.{stated}
use Rattle.answer.specs.AnswerLines.{answer_line}
use Rattle.answer.specs.AnswerNumbers.{answer_numbers}
use Rattle.docket.specs.declared.Docket.{Docket}
use Rattle.docket.specs.declared.Lodged.{Lodged}
use Rattle.docket.specs.declared.Reported.{Reported}
use Rattle.docket.specs.Lodging.{lodge_of}
use Rattle.docket.specs.Report.{report_of, buffer_of}
use Rattle.docket.specs.Demand3.{Unheld}
use Rattle.std.specs.Prelude.{Result, Ok, Err}
use Rattle.leaves.specs.declared.short.Taken.{Taken}
use Rattle.runs.specs.declared.question.Unanswered.{Unanswered}
use Rattle.runs.specs.declared.question.Unanswered.TheVariants.{NoProblem, Unfit}
use Rattle.docket.specs.Taking.{taken_of}
use Rattle.list.proofs.AnswerSizes.{answer_fits}
use Rattle.state.specs.Layout.{docket_in}
use Rattle.state.specs.Kept.{long, holds, lodged_numbers, lodged_rows, outputs_count, outputs_of}
use Rattle.state.proofs.Arrays.{demand_long, spare_long, units_long}
use Rattle.state.proofs.Room.{clash, long_room}
use Rattle.state.proofs.Opening.{holds_sound}
use Rattle.state.proofs.Outputs.{outputs_few}
use Rattle.state.proofs.Lodged as state
use Rattle.docket_host.specs.HostAnswer.{too_little_room}
use Rattle.docket_host.specs.Calls.{no_docket, guarded, fresh_answer, fresh_numbers, fresh_rows, lends, lodge_room, lodge_answer, lodge_numbers, lodge_rows, lodge_line, lodge_values, report_number, report_answer, report_bytes, outputs_room, outputs_answer, outputs_rows, taken_room, taken_number, taken_written, taken_answer, taken_numbers}

-- ---- what a test of room says

module _ (line values : List ℕ) where
  lends_much : lends line values ≡ true → (128 ≤ length line) × (16 ≤ length values)
  lends_much e = go (ltb (length line) 128) refl e
    where
      go : (t : Bool) → ltb (length line) 128 ≡ t → cond t false (leb 16 (length values)) ≡ true → (128 ≤ length line) × (16 ≤ length values)
      go true h k = clash k
      go false h k = (ltb-false (length line) 128 h, leb-true 16 (length values) k)

  pub lends_is : (lends line values ≡ true) ↔ ((128 ≤ length line) × (16 ≤ length values))
  lends_is = (lends_much, λ h. rw (le-ltb (length line) 128 h.0, le-leb 16 (length values) h.1) refl)

pub lodge_lent : (v w line values : List ℕ) → lodge_room v w line values ≡ true → (long v w ≡ true) × ((128 ≤ length line) × (16 ≤ length values))
lodge_lent v w line values e = go (long v w) refl e
  where
    go : (t : Bool) → long v w ≡ t → cond t (lends line values) false ≡ true → (long v w ≡ true) × ((128 ≤ length line) × (16 ≤ length values))
    go true h k = (h, (lends_is line values).0 k)
    go false h k = clash k

module _ (v w o : List ℕ) where
  pub outputs_lent : outputs_room v w o ≡ true → (long v w ≡ true) × (1536 ≤ length o)
  outputs_lent e = go (long v w) refl e
    where
      go : (t : Bool) → long v w ≡ t → cond t (leb 1536 (length o)) false ≡ true → (long v w ≡ true) × (1536 ≤ length o)
      go true h k = (h, leb-true 1536 (length o) k)
      go false h k = clash k

-- the line of every answer has at most 64 bytes
pub line_most : (v w text : List ℕ) → long v w ≡ true → length (answer_line (stated (lodge_of (docket_in v w) text).answer)) ≤ 64
line_most v w text e = let r = (long_room v w e).0 in answer_fits (docket_in v w) (demand_long v w r) (spare_long v w r) (units_long v w r) text

-- ---- a docket begun

pub fresh_short : (v w : List ℕ) → long v w ≡ false → (too_little_room ≡ fresh_answer v w) × ((v ≡ fresh_numbers v w) × (w ≡ fresh_rows v w))
unfolding fresh_answer fresh_numbers fresh_rows
fresh_short v w e = (rw e refl, (rw e refl, rw e refl))

-- ---- a text lodged

-- where nothing differs, nothing is told apart
all_same : (room is : Bool) (x : List ℕ) → guarded room is x x x ≡ x
all_same true true x = refl
all_same true false x = refl
all_same false is x = refl

module _ (v w text line values : List ℕ) where
  abbrev pub Lodges : (r : ℕ) (v' w' line' values' : List ℕ) → Type 0
  Lodges r v' w' line' values' = (r ≡ lodge_answer v w text line values) × ((v' ≡ lodge_numbers v w text line values) × ((w' ≡ lodge_rows v w text line values)
      × ((line' ≡ lodge_line v w text line values) × (values' ≡ lodge_values v w text line values))))

  pub lodge_short : lodge_room v w line values ≡ false → Lodges too_little_room v w line values
  unfolding lodge_answer lodge_numbers lodge_rows lodge_line lodge_values
  lodge_short e = (rw e refl, (rw e refl, (rw e refl, (rw e refl, rw e refl))))

  pub lodge_none : lodge_room v w line values ≡ true → holds v w ≡ false → Lodges no_docket v w line values
  unfolding lodge_answer lodge_numbers lodge_rows lodge_line lodge_values
  lodge_none e i = (rw (e, i) refl, (rw (e, i) refl, (rw (e, i) refl, (rw (e, i) refl, rw (e, i) refl))))

  module _ (e : lodge_room v w line values ≡ true) (i : holds v w ≡ true) where
    pub lodge_by : Lodges (length (answer_line (stated (lodge_of (docket_in v w) text).answer))) (lodged_numbers (lodge_of (docket_in v w) text) v) (lodged_rows (lodge_of (docket_in v w) text) w)
        (over (answer_line (stated (lodge_of (docket_in v w) text).answer)) line) (over (answer_numbers (stated (lodge_of (docket_in v w) text).answer)) values)
    unfolding lodge_answer lodge_numbers lodge_rows lodge_line lodge_values
    lodge_by = (rw (e, i) refl, (rw (e, i) refl, (rw (e, i) refl, (rw (e, i) refl, rw (e, i) refl))))

    pub lodge_done : (d : Docket) → d ≡ docket_in v w → (l : Lodged) → l ≡ lodge_of d text → (figures : List ℕ) → figures ≡ answer_numbers (stated l.answer)
        → (r : ℕ) (v' w' line' values' : List ℕ) → r ≡ length (answer_line (stated l.answer)) → v' ≡ lodged_numbers l v → w' ≡ lodged_rows l w
        → line' ≡ over (answer_line (stated l.answer)) line → values' ≡ paste values 0 figures (length figures) → Lodges r v' w' line' values'
    lodge_done d ed l el figures ef r v' w' line' values' er ev ew eb es =
        let k : l ≡ lodge_of (docket_in v w) text = el ∙ ap (λ (x : Docket). lodge_of x text) ed in
        let b = lodge_by in (
          er ∙ ap (λ (x : Lodged). length (answer_line (stated x.answer))) k ∙ b.0,
          (
            ev ∙ ap (λ (x : Lodged). lodged_numbers x v) k ∙ b.1.0,
            (
              ew ∙ ap (λ (x : Lodged). lodged_rows x w) k ∙ b.1.1.0,
              (
                eb ∙ ap (λ (x : Lodged). over (answer_line (stated x.answer)) line) k ∙ b.1.1.1.0,
                es ∙ front_more [] values values figures 0 refl refl ∙ ap (λ (x : List ℕ). over x values) ef ∙ ap (λ (x : Lodged). over (answer_numbers (stated x.answer)) values) k ∙ b.1.1.1.1,
              ),
            ),
          ),
        )

  -- no length is one of the two numbers
  pub length_apart : lodge_room v w line values ≡ true → holds v w ≡ true → lodge_answer v w text line values < no_docket
  length_apart e i = omega (arith, (lodge_by e i).0, line_most v w text (lodge_lent v w line values e).0)

  -- a text that is refused or passed leaves the state
  pub unheld_leaves : Unheld (stated (lodge_of (docket_in v w) text).answer) → (lodge_numbers v w text line values ≡ v) × (lodge_rows v w text line values ≡ w)
  unfolding lodge_numbers lodge_rows
  unheld_leaves u =
      let l = state.unheld_leaves (lodge_of (docket_in v w) text) v w u in
      (rw l.0 (all_same (lodge_room v w line values) (holds v w) v), rw l.1 (all_same (lodge_room v w line values) (holds v w) w))

-- ---- a report

module _ (v w b : List ℕ) (k : ℕ) where
  abbrev pub Tells : (r : ℕ) (b' : List ℕ) → Type 0
  Tells r b' = (r ≡ report_answer v w b k) × (b' ≡ report_bytes v w b k)

  pub report_short : long v w ≡ false → Tells too_little_room b
  unfolding report_answer report_bytes
  report_short e = (rw e refl, rw e refl)

  pub report_none : long v w ≡ true → holds v w ≡ false → Tells no_docket b
  unfolding report_answer report_bytes
  report_none e i = (rw (e, i) refl, rw (e, i) refl)

  module _ (e : long v w ≡ true) (i : holds v w ≡ true) where
    pub report_by : Tells (report_number (report_of (docket_in v w) b k).answer) (buffer_of (docket_in v w) b k)
    unfolding report_answer report_bytes
    report_by = (rw (e, i) refl, rw (e, i) refl)

    pub report_done : (d : Docket) → d ≡ docket_in v w → (x : Reported) → x ≡ report_of d b k → (r : ℕ) → r ≡ report_number x.answer
        → (b' : List ℕ) → b' ≡ buffer_of d b k → Tells r b'
    report_done d ed x ex r er b' eb =
        let s = report_by in (
          er ∙ ap (λ (y : Reported). report_number y.answer) ex ∙ ap (λ (y : Docket). report_number (report_of y b k).answer) ed ∙ s.0,
          eb ∙ ap (λ (y : Docket). buffer_of y b k) ed ∙ s.1,
        )

-- ---- the outputs

module _ (v w o : List ℕ) where
  abbrev pub Copies : (r : ℕ) (o' : List ℕ) → Type 0
  Copies r o' = (r ≡ outputs_answer v w o) × (o' ≡ outputs_rows v w o)

  pub outputs_short : outputs_room v w o ≡ false → Copies too_little_room o
  unfolding outputs_answer outputs_rows
  outputs_short e = (rw e refl, rw e refl)

  pub outputs_none : outputs_room v w o ≡ true → holds v w ≡ false → Copies no_docket o
  unfolding outputs_answer outputs_rows
  outputs_none e i = (rw (e, i) refl, rw (e, i) refl)

  module _ (e : outputs_room v w o ≡ true) (i : holds v w ≡ true) where
    pub outputs_by : Copies (outputs_count (docket_in v w)) (over (outputs_of (docket_in v w)) o)
    unfolding outputs_answer outputs_rows
    outputs_by = (rw (e, i) refl, rw (e, i) refl)

    -- no count is one of the two numbers
    pub outputs_apart : outputs_answer v w o < no_docket
    outputs_apart = omega (arith, outputs_by.0, outputs_few (docket_in v w) (holds_sound v w i))

    pub outputs_done : (d : Docket) → d ≡ docket_in v w → (r : ℕ) → r ≡ outputs_count d → (o' : List ℕ) → o' ≡ over (outputs_of d) o → Copies r o'
    outputs_done d ed r er o' eo =
        let s = outputs_by in
        (er ∙ ap outputs_count ed ∙ s.0, eo ∙ ap (λ (x : Docket). over (outputs_of x) o) ed ∙ s.1)

-- ---- how many units `short` takes

pub taken_lent : (v w o : List ℕ) → taken_room v w o ≡ true → (long v w ≡ true) × (2 ≤ length o)
taken_lent v w o e = go (long v w) refl e
  where
    go : (t : Bool) → long v w ≡ t → cond t (leb 2 (length o)) false ≡ true → (long v w ≡ true) × (2 ≤ length o)
    go true h k = (h, leb-true 2 (length o) k)
    go false h k = clash k

-- two numbers stored one after the other
pub two_stored : (o : List ℕ) (x y : ℕ) → 2 ≤ length o → set (set o 0 x) 1 y ≡ over (x ∷ (y ∷ [])) o
two_stored [] x y h = absurd (omega arith)
two_stored (a ∷ []) x y h = absurd (omega arith)
two_stored (a ∷ (b ∷ o)) x y h = refl

module _ (v w : List ℕ) (period most : ℕ) (fixed o : List ℕ) where
  abbrev pub Counts : (r : ℕ) (o' : List ℕ) → Type 0
  Counts r o' = (r ≡ taken_answer v w period most fixed o) × (o' ≡ taken_numbers v w period most fixed o)

  pub taken_short : taken_room v w o ≡ false → Counts too_little_room o
  unfolding taken_answer taken_numbers
  taken_short e = (rw e refl, rw e refl)

  pub taken_none : taken_room v w o ≡ true → holds v w ≡ false → Counts no_docket o
  unfolding taken_answer taken_numbers
  taken_none e i = (rw (e, i) refl, rw (e, i) refl)

  module _ (e : taken_room v w o ≡ true) (i : holds v w ≡ true) where
    pub taken_by : Counts (taken_number (taken_of (docket_in v w) period most fixed)) (taken_written (taken_of (docket_in v w) period most fixed) o)
    unfolding taken_answer taken_numbers
    taken_by = (rw (e, i) refl, rw (e, i) refl)

    -- what is told is none of the two numbers
    pub taken_apart : taken_answer v w period most fixed o ≤ 2
    taken_apart = omega (arith, taken_by.0, go (taken_of (docket_in v w) period most fixed))
      where
        go : (a : Result Taken Unanswered) → taken_number a ≤ 2
        go (Ok t) = omega arith
        go (Err NoProblem) = omega arith
        go (Err Unfit) = omega arith

    pub taken_done : (d : Docket) → d ≡ docket_in v w → (a : Result Taken Unanswered) → a ≡ taken_of d period most fixed → (r : ℕ) → r ≡ taken_number a
        → (o' : List ℕ) → o' ≡ taken_written a o → Counts r o'
    taken_done d ed a ea r er o' eo =
        let s = taken_by in
        let k : a ≡ taken_of (docket_in v w) period most fixed = ea ∙ ap (λ (x : Docket). taken_of x period most fixed) ed in
        (er ∙ ap taken_number k ∙ s.0, eo ∙ ap (λ (x : Result Taken Unanswered). taken_written x o) k ∙ s.1)
