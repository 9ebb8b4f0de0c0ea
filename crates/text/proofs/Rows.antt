-- What the readers of a line answer is what the tests say of the line; and of a good line the row begins with its numbers.
use Prim.Native.Nat.{ℕ, zero, suc, ◌≤◌, ◌<◌, min}
use native.Mathlib.Nat.{zero-add}
use native.Mathlib.Omega.{arith}
use mathlib.Core.Path.{◌≡◌, refl, sym, ap, ◌∙◌}
use mathlib.Core.Bool.{Bool, true, false, not, ◌&&◌, cond}
use mathlib.Core.List.{List, [], ◌∷◌, ◌++◌}
use lib.ListN.{length, take, drop, replicate}
use lib.Seq.{sets-eq, take_at}
use lib.Dec.{leb, ltb, eqb}
use borrow.Author.Tests.{ltb-true, lt-ltb, leb-true, leb-false, le-leb, lt-leb, eqb-true, eq-eqb, not-false}
use Rattle.decimal.specs.NumberRead.{read_cap}
use Rattle.text.specs.Lines.{Line, line_at, one_line}
use Rattle.text.specs.Forms.{size, sizes, Form, values_of, numbers_of, all_within, malformed, wrong_count, outside_range, form_refusal, good_line, place_after, verdict_of, all_below, any_minus}
use Rattle.text.specs.Scan.{magnitude, ValuesRead, keyed_at, minus_of, values_verdict}
use Rattle.text.specs.declared.Values.{Values}
use Rattle.std.specs.Prelude.{Option, Ok, Err}
use Rattle.text.specs.declared.Fault.TheVariants.{Malformed, OutOfRange, WrongCount}
use Rattle.text.proofs.Cuts.{and_both}
use Rattle.text.proofs.Scanned.{magnitudes, WasRead, Met, unread, read, met}
use Rattle.text.proofs.Verdicts.{form_passes}

-- ---- the cap cuts nothing that is in range

length_magnitudes : (fs : List (List ℕ)) → length (magnitudes fs) ≡ length fs
length_magnitudes [] = refl
length_magnitudes (f ∷ fs) = ap suc (length_magnitudes fs)

-- the range of a number by its capped value
capped_high : (x h : ℕ) → h < read_cap → leb (min read_cap x) h ≡ leb x h
capped_high x h k = go (leb x h) refl
  where
    go : (t : Bool) → leb x h ≡ t → leb (min read_cap x) h ≡ t
    go true e = le-leb (min read_cap x) h (let w = leb-true x h e in omega arith)
    go false e = lt-leb (min read_cap x) h (let w = leb-false x h e in omega arith)

capped_low : (x l h : ℕ) → h < read_cap → leb x h ≡ true → leb l (min read_cap x) ≡ leb l x
capped_low x l h k e = let w = leb-true x h e in let q : min read_cap x ≡ x = omega arith in ap (leb l) q

one_range : (a b c d : Bool) (r r' : Bool) → b ≡ d → (d ≡ true → a ≡ c) → r ≡ r' → (a && (b && r)) ≡ (c && (d && r'))
one_range a b c true r r' p q w = λ i. q refl i && (p i && w i)
one_range true b true false r r' p q w = ap (λ (t : Bool). t && r) p
one_range true b false false r r' p q w = ap (λ (t : Bool). t && r) p
one_range false b true false r r' p q w = refl
one_range false b false false r r' p q w = refl

pub within_capped : (fs : List (List ℕ)) (ls hs : List ℕ) → all_below hs ≡ true → all_within (magnitudes fs) ls hs ≡ all_within (sizes fs) ls hs
within_capped [] ls hs e = refl
within_capped (f ∷ fs) [] hs e = refl
within_capped (f ∷ fs) (l ∷ ls) [] e = refl
within_capped (f ∷ fs) (l ∷ ls) (h ∷ hs) e =
    let p = and_both (ltb h read_cap) (all_below hs) e in
    let k = ltb-true h read_cap p.0 in
    one_range (leb l (magnitude f)) (leb (magnitude f) h) (leb l (size f)) (leb (size f) h) (all_within (magnitudes fs) ls hs) (all_within (sizes fs) ls hs)
    (capped_high (size f) h k) (capped_low (size f) l h k) (within_capped fs ls hs p.1)

pub uncapped : (fs : List (List ℕ)) (ls hs : List ℕ) → all_below hs ≡ true → all_within (sizes fs) ls hs ≡ true → magnitudes fs ≡ sizes fs
uncapped [] ls hs e w = refl
uncapped (f ∷ fs) [] hs e w = absurd (let z : ◌≡◌ {A = ℕ} 0 1 = cc in omega arith)
uncapped (f ∷ fs) (l ∷ ls) [] e w = absurd (let z : ◌≡◌ {A = ℕ} 0 1 = cc in omega arith)
uncapped (f ∷ fs) (l ∷ ls) (h ∷ hs) e w =
    let p = and_both (ltb h read_cap) (all_below hs) e in
    let q = and_both (leb l (size f)) (leb (size f) h && all_within (sizes fs) ls hs) w in
    let r = and_both (leb (size f) h) (all_within (sizes fs) ls hs) q.1 in
    let k = ltb-true h read_cap p.0 in
    let j = leb-true (size f) h r.0 in
    let c : magnitude f ≡ size f = omega arith in
    λ i. c i ∷ uncapped fs ls hs p.1 r.1 i

-- ---- the verdict by the tests

module _ (f : Form) (l : Line) (at : ℕ) where
  ruled_malformed : malformed f l ≡ true → Err Malformed ≡ verdict_of f l at
  unfolding verdict_of good_line form_refusal
  ruled_malformed e = simp e

  module _ (m : malformed f l ≡ false) where
    ruled_count : wrong_count f l ≡ true → Err WrongCount ≡ verdict_of f l at
    unfolding verdict_of good_line form_refusal
    ruled_count e = simp (m, e)

    module _ (c : wrong_count f l ≡ false) where
      ruled_range : outside_range f l ≡ true → Err OutOfRange ≡ verdict_of f l at
      unfolding verdict_of good_line form_refusal
      ruled_range e = simp (m, c, e)

      ruled_in : outside_range f l ≡ false → Ok (place_after l at) ≡ verdict_of f l at
      unfolding verdict_of good_line form_refusal
      ruled_in e = simp (m, c, e)

-- ---- a line that is read into a row with room for the values due

-- of a good line: the row, which held o, begins with the line's numbers, and the minus answered is theirs
pub record Held (f : Form) (l : Line) (o : List ℕ) (v : Option Values) (out : List ℕ) : Type 0 where
  pub values : out ≡ numbers_of f l ++ drop (length f.lows) o
  pub minus : minus_of v ≡ any_minus (values_of f l)

module _ (f : Form) (s o : List ℕ) (at : ℕ) (one : one_line f.key ≡ true) (low : all_below f.highs ≡ true) (room : length f.lows ≤ length o) where
  abbrev here : Line
  here = line_at s at

  abbrev due : ℕ
  due = length f.lows

  -- as many values as are due stand first
  module _ {c e : ℕ} {neg : Bool} {out : List ℕ} (w : WasRead f here at o c e neg out) (many : c ≡ due) where
    whole : length (magnitudes (values_of f here)) ≡ due
    whole = length_magnitudes (values_of f here) ∙ sym w.count ∙ many

    held : out ≡ magnitudes (values_of f here) ++ drop due o
    held =
        w.stored
        ∙ sets-eq (magnitudes (values_of f here)) o 0 (omega (arith, whole))
        ∙ ap (λ (n : ℕ). magnitudes (values_of f here) ++ drop n o) (zero-add (length (magnitudes (values_of f here))) ∙ whole)

    -- they are tested by their ranges as the line's numbers are
    tested : all_within (take due out) f.lows f.highs ≡ all_within (numbers_of f here) f.lows f.highs
    tested =
        ap (λ (x : List ℕ). all_within x f.lows f.highs) (ap (take due) held ∙ take_at (magnitudes (values_of f here)) (drop due o) due whole)
        ∙ within_capped (values_of f here) f.lows f.highs low

    counted : wrong_count f here ≡ false
    unfolding wrong_count
    counted = simp (eq-eqb (length (values_of f here)) due (sym w.count ∙ many))

  ranged : {c e : ℕ} {neg : Bool} {out : List ℕ} (w : WasRead f here at o c e neg out) → c ≡ due → (t : Bool) → all_within (take due out) f.lows f.highs ≡ t
      → cond t (Ok e) (Err OutOfRange) ≡ verdict_of f here at
  unfolding outside_range
  ranged w many true e = ap (λ (n : ℕ). Ok n) w.end ∙ ruled_in f here at w.formed (counted w many) (ap not (sym (tested w many) ∙ e))
  ranged w many false e = ruled_range f here at w.formed (counted w many) (ap not (sym (tested w many) ∙ e))

  ruled : {c e : ℕ} {neg : Bool} {out : List ℕ} (w : WasRead f here at o c e neg out) (t : Bool) → eqb c due ≡ t
      → cond t (cond (all_within (take due out) f.lows f.highs) (Ok e) (Err OutOfRange)) (Err WrongCount) ≡ verdict_of f here at
  unfolding wrong_count
  ruled {c} {out = out} w true q = ranged w (eqb-true c due q) (all_within (take due out) f.lows f.highs) refl
  ruled {c} w false q = ruled_count f here at w.formed (ap (λ (n : ℕ). not (eqb n due)) (sym w.count) ∙ ap not q)

  by_tests : (r : ValuesRead) → Met f here at o r → values_verdict r.answer due (all_within (take due r.out) f.lows f.highs) ≡ verdict_of f here at
  by_tests r (unread a m) = rw a (ruled_malformed f here at m)
  by_tests r (read c e neg a w) = rw a (ruled w (eqb c due) refl)

  by_good : (r : ValuesRead) → Met f here at o r → good_line f here ≡ true → Held f here o r.answer r.out
  unfolding outside_range wrong_count
  by_good r (unread a m) g = absurd (let p = ((form_passes f here []).1 (g, tt)).0 in let z : ◌≡◌ {A = ℕ} 0 1 = cc in omega arith)
  by_good r (read c e neg a w) g =
      let p = (form_passes f here []).1 (g, tt) in
      let many : c ≡ due = w.count ∙ eqb-true (length (values_of f here)) due (not-false (eqb (length (values_of f here)) due) p.1.0) in
      let in_range = not-false (all_within (numbers_of f here) f.lows f.highs) p.1.1.0 in
      record {
        values = held w many ∙ ap (λ (x : List ℕ). x ++ drop due o) (uncapped (values_of f here) f.lows f.highs low in_range);
        minus = rw a w.sign;
      }

  module _ {v : Option Values} {out : List ℕ} (answered : v ≡ (keyed_at f.key s at f.minus o).answer) (stored : out ≡ (keyed_at f.key s at f.minus o).out) where
    -- the verdict, by the values answered and the row
    pub verdict_is : {within : Bool} → within ≡ all_within (take due out) f.lows f.highs → values_verdict v due within ≡ verdict_of f here at
    verdict_is t = rw (t, answered, stored) (by_tests (keyed_at f.key s at f.minus o) (met f s o at one))

    pub good_held : good_line f here ≡ true → Held f here o v out
    good_held g = rw (answered, stored) (by_good (keyed_at f.key s at f.minus o) (met f s o at one) g)

-- ---- rows whose numbers all have one range

pub below_same : (n h : ℕ) → h < read_cap → all_below (replicate n h) ≡ true
below_same zero h k = refl
below_same (suc n) h k = simp (lt-ltb h read_cap k, below_same n h k)
