-- A line that is read into a row as long as the values due: the verdict is that of the line, and a good line leaves its numbers.
use Prim.Native.Nat.{ℕ, ◌+◌, ◌≤◌, ◌<◌}
use native.Mathlib.Omega.{arith}
use mathlib.Core.Path.{◌≡◌, refl, sym, ap, subst, ◌∙◌}
use mathlib.Core.Bool.{Bool, true, false, cond, ◌||◌}
use mathlib.Core.List.{List, append-nil, ◌++◌}
use lib.Dec.{eqb}
use lib.ListN.{length, drop, set, length-set, replicate, length-replicate, drop_of_length-le}
use lib.Seq.{take_all}
use Rattle.decimal.specs.NumberRead.{read_cap}
use Rattle.text.specs.Lines.{Line, line_at, one_line, begins}
use Rattle.text.specs.Forms.{has_minus, formed, Form, form, plain, numbers_of, all_within, good_line, place_after, verdict_of, all_below}
use Rattle.text.specs.Scan.{Scan, cut, last, more, magnitude, some_values, wrong, reading, values_at, keyed_at, stored_at, values_verdict}
use Rattle.text.specs.declared.Values.{Values}
use Rattle.std.specs.Prelude.{Option, Result, Ok}
use Rattle.text.specs.declared.Fault.{Fault}
use Rattle.text.proofs.Rows.{verdict_is, good_held, below_same}
use Rattle.text.proofs.Verdicts.{ruled_good}
use Rattle.text.proofs.Plain.{AllBetween, plain_was}

-- ---- a row keeps its length, whatever is read into it

reading_long : (m : ℕ) (c : Scan) (at k : ℕ) (minus : Bool) (o : List ℕ) → length (reading m c at k minus o).out ≡ length o
unfolding reading
reading_long m cut at k minus o = refl
reading_long m (last f) at k minus o = go (formed (eqb (k + 1) m) f)
  where
    go : (b : Bool) → length (cond b (record { answer = some_values (k + 1) (at + length f + 1) (minus || has_minus f); out = set o k (magnitude f) }) (wrong o)).out ≡ length o
    go true = length-set o k (magnitude f)
    go false = refl
reading_long m (more f g) at k minus o =
    go (formed (eqb (k + 1) m) f) (reading_long m g (at + length f + 1) (k + 1) (minus || has_minus f) (set o k (magnitude f)) ∙ length-set o k (magnitude f))
  where
    go : (b : Bool) → length (reading m g (at + length f + 1) (k + 1) (minus || has_minus f) (set o k (magnitude f))).out ≡ length o
        → length (cond b (reading m g (at + length f + 1) (k + 1) (minus || has_minus f) (set o k (magnitude f))) (wrong o)).out ≡ length o
    go true e = e
    go false e = refl

pub stored_long : (key s : List ℕ) (at : ℕ) (o : List ℕ) → length (stored_at key s at o) ≡ length o
unfolding keyed_at values_at
stored_long key s at o = go (begins key (drop at s))
  where
    go : (b : Bool) → length (cond b (values_at s (at + length key) 0 o) (wrong o)).out ≡ length o
    go true = reading_long 0 _ (at + length key) 0 false o
    go false = refl

-- ---- a good line

-- what a good line leaves: the row holds its numbers, and the next line's start is known
pub record Filled (f : Form) (l : Line) (at next : ℕ) (out : List ℕ) : Type 0 where
  pub line_good : good_line f l ≡ true
  pub next_is : next ≡ place_after l at
  pub values : out ≡ numbers_of f l

module _ (key lows highs s o : List ℕ) (at : ℕ) (one : one_line key ≡ true) (low : all_below highs ≡ true) (many : length o ≡ length lows)
    {out : List ℕ} (stored : out ≡ stored_at key s at o) where
  abbrev due : Form
  due = form key 0 lows highs

  room : length lows ≤ length o
  room = omega arith

  -- the verdict, by the values answered and the row
  pub fill_verdict : {v : Option Values} {within : Bool} → v ≡ (keyed_at key s at 0 o).answer → length out ≡ length o → within ≡ all_within out lows highs
      → values_verdict v (length out) within ≡ verdict_of due (line_at s at) at
  fill_verdict answered kept t =
      rw (kept ∙ many)
      (verdict_is due s o at one low room answered stored (t ∙ ap (λ (x : List ℕ). all_within x lows highs) (sym (take_all (length lows) out (omega arith)))))

  pub filled : {v : Result ℕ Fault} → v ≡ verdict_of due (line_at s at) at → {next : ℕ} → v ≡ Ok next → Filled due (line_at s at) at next out
  filled {v} is {next} e =
      let g = ruled_good due (line_at s at) at v is next e in
      let h = good_held due s o at one low room refl stored g.0 in
      record {
        line_good = g.0;
        next_is = g.1;
        values = h.values ∙ ap (λ (x : List ℕ). numbers_of due (line_at s at) ++ x) (drop_of_length-le o {i = length lows} (omega arith)) ∙ append-nil (numbers_of due (line_at s at));
      }

-- ---- numbers of one range

-- what a good line of n numbers from lo to hi leaves
pub record PlainFilled (key : List ℕ) (n lo hi : ℕ) (l : Line) (at next : ℕ) (out : List ℕ) : Type 0 where
  pub line_good : good_line (plain key n lo hi) l ≡ true
  pub next_is : next ≡ place_after l at
  pub values : out ≡ numbers_of (plain key n lo hi) l
  pub count : length out ≡ n
  pub range : AllBetween lo hi out

module _ (key : List ℕ) (lo hi : ℕ) (s o : List ℕ) (at : ℕ) (one : one_line key ≡ true) (low : hi < read_cap) {out : List ℕ} (stored : out ≡ stored_at key s at o) where
  pub plain_filled : {n : ℕ} → length o ≡ n → {v : Result ℕ Fault} → v ≡ verdict_of (plain key n lo hi) (line_at s at) at → {next : ℕ} → v ≡ Ok next
      → PlainFilled key n lo hi (line_at s at) at next out
  plain_filled {n} long {v} is {next} e =
      let g = filled key (replicate n lo) (replicate n hi) s o at one (below_same n hi low) (long ∙ sym (length-replicate n lo)) stored is e in
      let p = plain_was key n lo hi (line_at s at) g.line_good in
      record {
        line_good = g.line_good;
        next_is = g.next_is;
        values = g.values;
        count = ap length g.values ∙ p.count;
        range = subst (AllBetween lo hi) (sym g.values) p.range;
      }
