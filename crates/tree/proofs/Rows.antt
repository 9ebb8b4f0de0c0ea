-- What the row of a line says: the number that refuses the line is the first of 12, 14, 13, and of a good line the row holds the
-- numbers and the next line's start.
use mathlib.Core.Path.{◌≡◌, refl, sym, ap, ◌∙◌}
use mathlib.Core.Bool.{Bool, true, false}
use mathlib.Core.List.{List, [], ◌∷◌}
use Prim.Native.Nat.{ℕ, suc, pred, ◌+◌, ◌-◌, ◌≤◌, ◌<◌}
use native.Mathlib.Omega.{arith}
use lib.ListN.{length, drop, length-drop, length-append, take}
use Rattle.model.specs.Instance.{Instance, ◌at◌}
use Rattle.model.specs.Tree.{Multipliers}
use Rattle.text.specs.Lines.{Line, ended, bytes_of, later, lines_of, line_at}
use Rattle.text.specs.Forms.{Form, plain, numbers_of, good_line, form_refusal, place_after, fault_number, fault_of, row_of, form_tests}
use Rattle.text.specs.Course as course
use Rattle.text.specs.Course.{refused}
use Rattle.text.specs.Tests.{Test, found}
use Rattle.text.specs.declared.Row.{Row}
use Rattle.text.specs.declared.Fault.{Fault}
use Rattle.text.specs.declared.Fault.TheVariants.{Malformed, OutOfRange, WrongCount, Disordered}
use Rattle.std.specs.Prelude.{Result, Ok, Err}
use Rattle.text.proofs.Cuts.{text_ended, next_lines, later_fewer}
use Rattle.text.proofs.Plain.{plain_was}
use Rattle.text.proofs.PlainRows.{plain_row}
use Rattle.text.proofs.Fills.{PlainFilled}
use Rattle.text.proofs.Tests.{good_none}
use Rattle.text.proofs.Verdicts.{fault_is, fault_read, good_read, good_ended, form_refused, form_found, form_passes}
use Rattle.tree.specs.NodeLines.{named}
use Rattle.tree.specs.declared.naming.NamedLine.{NamedLine}
use Rattle.tree.specs.ReadAnswers.{named_by, names, named_line_read}
use Rattle.tree.proofs.Lines.{was_multipliers, was_one}

-- ---- refused

-- the first of 12, 14, 13 whose test holds of the line is n
abbrev pub LineRefused : Form → Line → ℕ → Type 0
LineRefused f l n = (good_line f l ≡ false) × (form_refusal f l ≡ n)

pub refused_found : {S : Type 0} (f : Form) (l : Line) (n : ℕ) (ts : List Test) (s : S) → LineRefused f l n → found (form_tests f l ts) s ≡ refused n
refused_found f l n ts s r = form_refused f l ts s r.0 ∙ ap refused r.1

-- ---- from one line to the next

-- how many lines are left from a place on
abbrev pub unread : List ℕ → ℕ → ℕ
unread text here = length (lines_of (drop here text))

pub record Moved (text : List ℕ) (here next : ℕ) : Type 0 where
  pub place : next ≡ place_after (line_at text here) here
  pub past : here < next
  pub inside : next ≤ length text
  pub lines : lines_of (drop next text) ≡ later (lines_of (drop here text))
  pub fewer : unread text next + 1 ≡ unread text here

-- past an ended line
pub ended_moved : (text : List ℕ) (here : ℕ) (b : List ℕ) → line_at text here ≡ ended b → Moved text here (place_after (line_at text here) here)
ended_moved text here b l =
    let n : place_after (line_at text here) here ≡ here + length b + 1 = ap (λ (x : Line). place_after x here) l in
    let t : length (drop here text) ≡ length b + suc (length (drop (length b + 1) (drop here text))) =
    ap (λ (s : List ℕ). length s) (text_ended (drop here text) b l) ∙ length-append b (10 ∷ drop (length b + 1) (drop here text)) in
    let d = length-drop here text in
    let k : lines_of (drop (place_after (line_at text here) here) text) ≡ later (lines_of (drop here text)) = rw n (next_lines text b here l) in
    record {
      place = refl;
      past = omega arith;
      inside = omega arith;
      lines = k;
      fewer = ap (λ (ls : List Line). length ls + 1) k ∙ later_fewer (lines_of (drop here text)) b l;
    }

-- past a good line
pub line_moved : (f : Form) (text : List ℕ) (here next : ℕ) → good_line f (line_at text here) ≡ true → next ≡ place_after (line_at text here) here → Moved text here next
line_moved f text here next g n = rw n (ended_moved text here (bytes_of (line_at text here)) (good_ended f (line_at text here) g))

module _ (f : Form) (text : List ℕ) (here : ℕ) (r : Result Row Fault) (is : r ≡ row_of f (line_at text here) here) where
  pub row_refused : (w : Fault) → r ≡ Err w → LineRefused f (line_at text here) (fault_number w)
  row_refused w e = fault_read f (line_at text here) here r is w e

  -- ---- good

  module _ (row : Row) (e : r ≡ Ok row) where
    pub row_good : good_line f (line_at text here) ≡ true
    row_good = (good_read f (line_at text here) here r is row e).0

    pub row_moved : Moved text here row.next
    row_moved = line_moved f text here row.next row_good (ap (λ (x : Row). x.next) (good_read f (line_at text here) here r is row e).1)

-- ---- one number, or a number for each period

-- the number v of a line that names one of 1 to hi
pub record OneValue (key : List ℕ) (hi : ℕ) (l : Line) (v : ℕ) : Type 0 where
  pub low : 1 ≤ v
  pub high : v ≤ hi
  pub is_named : v - 1 ≡ named (plain key 1 1 hi) l 0

pub one_value : {key : List ℕ} {hi : ℕ} {l : Line} {here next : ℕ} {out : List ℕ} → PlainFilled key 1 1 hi l here next out → OneValue key hi l (out at 0)
one_value {key} {hi} {l} {out = out} g =
    let b = g.range 0 (omega (arith, g.count)) in
    let v = ap (λ (vs : List ℕ). vs at 0) g.values in
    let z : out at 0 - 1 ≡ pred (numbers_of (plain key 1 1 hi) l at 0) = omega arith in
    record { low = b.0; high = b.1; is_named = z }

-- what is wrong, by its number
fault_back : (w : Fault) → fault_of (fault_number w) ≡ w
fault_back Malformed = refl
fault_back OutOfRange = refl
fault_back WrongCount = refl
fault_back Disordered = refl

module _ (key : List ℕ) (most : ℕ) (text : List ℕ) (here : ℕ) where
  -- what the reader of such a line answers
  pub named_refused : (w : Fault) → LineRefused (plain key 1 1 most) (line_at text here) (fault_number w) → Err w ≡ named_line_read key most text here
  unfolding named_line_read
  named_refused w h =
      ap (λ (x : Fault). Err x) (sym (fault_back w))
      ∙ ap named_by (sym (refused_found (plain key 1 1 most) (line_at text here) (fault_number w) [] (names _ _) h))

  pub named_good : good_line (plain key 1 1 most) (line_at text here) ≡ true → (i next : ℕ) → i ≡ named (plain key 1 1 most) (line_at text here) 0
      → next ≡ place_after (line_at text here) here → Ok (names i next) ≡ named_line_read key most text here
  unfolding named_line_read
  named_good g i next v n = rw (v, n) (ap named_by (sym (form_found (plain key 1 1 most) (line_at text here) [] (names _ _) g)))

  -- what its answer says
  pub record NamesOne (i next : ℕ) : Type 0 where
    pub line_good : good_line (plain key 1 1 most) (line_at text here) ≡ true
    pub is_named : i ≡ named (plain key 1 1 most) (line_at text here) 0
    pub below : i < most
    pub moved : Moved text here next

  tests : List Test
  tests = form_tests (plain key 1 1 most) (line_at text here) []

  pub names_one : (r : NamedLine) → Ok r ≡ named_line_read key most text here → NamesOne r.index r.next
  unfolding named_line_read tests
  names_one r e = go (found tests said) refl e
    where
      said : NamedLine
      said = names (named (plain key 1 1 most) (line_at text here) 0) (place_after (line_at text here) here)

      go : (x : course.Found NamedLine) → found tests said ≡ x → Ok r ≡ named_by x → NamesOne r.index r.next
      go (course.refused n) p e = absurd (let z : ◌≡◌ {A = ℕ} 0 1 = cc in omega arith)
      go (course.good x) p e =
          let h = good_none said x tests p in
          let g = ((form_passes (plain key 1 1 most) (line_at text here) []).0 h.0).0 in
          let q : r ≡ x = cc in
          let v : r.index ≡ named (plain key 1 1 most) (line_at text here) 0 = ap (λ (y : NamedLine). y.index) (q ∙ sym h.1) in
          let n : r.next ≡ place_after (line_at text here) here = ap (λ (y : NamedLine). y.next) (q ∙ sym h.1) in
          record { line_good = g; is_named = v; below = rw v (was_one key most (line_at text here) g).range; moved = line_moved (plain key 1 1 most) text here r.next g n }

  pub names_none : (w : Fault) → Err w ≡ named_line_read key most text here → LineRefused (plain key 1 1 most) (line_at text here) (fault_number w)
  unfolding named_line_read
  names_none w e = go (good_line (plain key 1 1 most) (line_at text here)) refl
    where
      go : (b : Bool) → good_line (plain key 1 1 most) (line_at text here) ≡ b → LineRefused (plain key 1 1 most) (line_at text here) (fault_number w)
      go true g =
          let q = e ∙ ap named_by (form_found (plain key 1 1 most) (line_at text here) [] (names _ _) g) in
          absurd (let z : ◌≡◌ {A = ℕ} 0 1 = cc in omega arith)
      go false g =
          let q = e ∙ ap named_by (form_refused (plain key 1 1 most) (line_at text here) [] (names _ _) g) in
          let x : fault_of (form_refusal (plain key 1 1 most) (line_at text here)) ≡ w = cc in
          (g, sym (fault_is (plain key 1 1 most) (line_at text here) g) ∙ ap fault_number x)

module _ (P : Instance) (key : List ℕ) (text : List ℕ) (here : ℕ) (r : Result Row Fault)
    (is : r ≡ row_of (plain key P.periods 0 1000000000) (line_at text here) here) (row : Row) (e : r ≡ Ok row) where
  -- the row begins with the numbers of the line
  pub values_taken : take P.periods row.values ≡ numbers_of (plain key P.periods 0 1000000000) (line_at text here)
  values_taken = (plain_row key P.periods 0 1000000000 (line_at text here) here r is row e).values

  pub taken_multipliers : Multipliers P (take P.periods row.values)
  taken_multipliers =
      rw values_taken
      (was_multipliers P key (line_at text here)
      (plain_was key P.periods 0 1000000000 (line_at text here) (row_good (plain key P.periods 0 1000000000) text here r is row e)))
