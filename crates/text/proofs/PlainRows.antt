-- What the row of a good line of numbers of one range says: where the next line starts, and which numbers stand on the line.
use Prim.Native.Nat.{ℕ, ◌≤◌, ◌<◌}
use native.Mathlib.Omega.{arith}
use mathlib.Core.Path.{◌≡◌, sym, ap, ◌∙◌}
use mathlib.Core.Bool.{true}
use mathlib.Core.List.{List}
use lib.ListN.{take, get_or}
use Rattle.text.specs.Lines.{Line}
use Rattle.text.specs.Forms.{plain, numbers_of, good_line, place_after, pad_48, row_of}
use Rattle.text.specs.declared.Row.{Row}
use Rattle.std.specs.Prelude.{Result, Ok}
use Rattle.text.specs.declared.Fault.{Fault}
use Rattle.text.proofs.Verdicts.{good_read}
use Rattle.text.proofs.Plain.{plain_was, pad_48_take, pad_48_at}

-- it begins with the n numbers of the line, and has zeros after them
pub record PlainRow (key : List ℕ) (n lo hi : ℕ) (l : Line) (at : ℕ) (row : Row) : Type 0 where
  pub line_good : good_line (plain key n lo hi) l ≡ true
  pub next_is : row.next ≡ place_after l at
  pub values : take n row.values ≡ numbers_of (plain key n lo hi) l
  pub holds : pad_48 (take n row.values) ≡ row.values
  pub first : 0 < n → get_or row.values 0 0 ≡ get_or (numbers_of (plain key n lo hi) l) 0 0
  pub first_in : 0 < n → (lo ≤ get_or row.values 0 0) × (get_or row.values 0 0 ≤ hi)

pub plain_row : (key : List ℕ) (n lo hi : ℕ) (l : Line) (at : ℕ) (r : Result Row Fault) → r ≡ row_of (plain key n lo hi) l at → (row : Row) → r ≡ Ok row
    → PlainRow key n lo hi l at row
plain_row key n lo hi l at r is row v =
    let g = good_read (plain key n lo hi) l at r is row v in
    let p = plain_was key n lo hi l g.0 in
    let c = p.count in
    let vs = numbers_of (plain key n lo hi) l in
    let e : row.values ≡ pad_48 vs = ap (λ (x : Row). x.values) g.1 in
    let t : take n row.values ≡ vs = ap (take n) e ∙ pad_48_take vs n c in
    let first : 0 < n → get_or row.values 0 0 ≡ get_or vs 0 0 = λ h. ap (λ (r : List ℕ). get_or r 0 0) e ∙ pad_48_at vs 0 (omega arith) in
    record {
      line_good = g.0;
      next_is = ap (λ (x : Row). x.next) g.1;
      values = t;
      holds = ap pad_48 t ∙ sym e;
      first = first;
      first_in = λ h. let b = p.range 0 (omega arith) in let q = first h in (omega arith, omega arith);
    }
