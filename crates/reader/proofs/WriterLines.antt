-- The writer's line, by its row: refused where the row is, and otherwise the row's first number, at the next line's start.
use Prim.Native.Nat.{ℕ}
use native.Mathlib.Omega.{arith}
use mathlib.Core.Path.{◌≡◌, refl, sym, ap, ◌∙◌}
use mathlib.Core.Bool.{Bool, true, false, cond}
use lib.ListN.{get_or}
use Rattle.text.specs.Lines.{Line}
use Rattle.text.specs.Forms.{numbers_of, form_refusal, fault_number, fault_of, good_line, place_after, good_row_of, row_of}
use Rattle.text.specs.Writer.{writer_key, writer_form}
use Rattle.text.specs.declared.Row.{Row}
use Rattle.std.specs.Prelude.{Result, Ok, Err}
use Rattle.text.specs.declared.Fault.{Fault}
use Rattle.text.proofs.Verdicts.{fault_is}
use Rattle.text.proofs.PlainRows.{plain_row}
use Rattle.reader.specs.Written.{writer_line}
use Rattle.reader.specs.declared.WriterLine.{WriterLine}

-- the line where it is good, and where it is not
abbrev found : Line → ℕ → Bool → Result WriterLine Fault
found l at p = cond p (Ok (record { writer = get_or (numbers_of writer_form l) 0 0; next = place_after l at })) (Err (fault_of (form_refusal writer_form l)))

-- ---- what `writer_at` answers at each return

module _ (l : Line) (at : ℕ) (r : Result Row Fault) (is : r ≡ row_of writer_form l at) where
  pub row_refused : (w : Fault) → r ≡ Err w → Err w ≡ writer_line l at
  unfolding writer_line row_of
  row_refused w e = go (good_line writer_form l) (sym is ∙ e)
    where
      go : (p : Bool) → cond p (Ok (good_row_of writer_form l at)) (Err (fault_of (form_refusal writer_form l))) ≡ Err w → Err w ≡ found l at p
      go true q = absurd (let z : ◌≡◌ {A = ℕ} 0 1 = cc in omega arith)
      go false q = let p : w ≡ fault_of (form_refusal writer_form l) = cc in ap (λ (x : Fault). Err x) p

  pub row_written : (row : Row) → r ≡ Ok row → Ok (record { writer = get_or row.values 0 0; next = row.next }) ≡ writer_line l at
  unfolding writer_line
  row_written row e =
      let g = plain_row writer_key 1 1 65535 l at r is row e in
      rw (g.line_good, g.first (omega arith), g.next_is) refl

-- ---- what is known of a line that was read

-- the line is good, and says this writer and this next line's start
pub record Passed (l : Line) (at w next : ℕ) : Type 0 where
  pub line_good : good_line writer_form l ≡ true
  pub writer_is : w ≡ get_or (numbers_of writer_form l) 0 0
  pub next_is : next ≡ place_after l at

module _ (l : Line) (at : ℕ) (r : Result WriterLine Fault) (is : r ≡ writer_line l at) where
  pub line_refused : (w : Fault) → r ≡ Err w → (good_line writer_form l ≡ false) × (form_refusal writer_form l ≡ fault_number w)
  unfolding writer_line
  line_refused w e = go (good_line writer_form l) refl (sym is ∙ e)
    where
      go : (p : Bool) → good_line writer_form l ≡ p → found l at p ≡ Err w → (good_line writer_form l ≡ false) × (form_refusal writer_form l ≡ fault_number w)
      go true g q = absurd (let z : ◌≡◌ {A = ℕ} 0 1 = cc in omega arith)
      go false g q = let p : fault_of (form_refusal writer_form l) ≡ w = cc in (g, sym (fault_is writer_form l g) ∙ ap fault_number p)

  pub line_written : (line : WriterLine) → r ≡ Ok line → Passed l at line.writer line.next
  unfolding writer_line
  line_written line e = go (good_line writer_form l) refl (sym is ∙ e)
    where
      go : (p : Bool) → good_line writer_form l ≡ p → found l at p ≡ Ok line → Passed l at line.writer line.next
      go true g q =
          let p : record { writer = get_or (numbers_of writer_form l) 0 0; next = place_after l at } ≡ line = cc in
          record { line_good = g; writer_is = ap (λ (x : WriterLine). x.writer) (sym p); next_is = ap (λ (x : WriterLine). x.next) (sym p) }
      go false g q = absurd (let z : ◌≡◌ {A = ℕ} 0 1 = cc in omega arith)
