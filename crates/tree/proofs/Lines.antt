-- One line of numbers in a tree's text: multipliers, and one number that names a unit or a period. It is good exactly where it is the
-- rendering of such numbers.
use mathlib.Core.Path.{◌≡◌, refl}
use mathlib.Core.Bool.{Bool, true, false, ◌&&◌}
use mathlib.Core.List.{List, [], ◌∷◌}
use Prim.Native.Nat.{ℕ, zero, suc, pred, ◌≤◌, ◌<◌}
use native.Mathlib.Omega.{arith}
use lib.Dec.{leb}
use borrow.Author.Tests.{le-leb, leb-true}
use lib.ListN.{length}
use Rattle.model.specs.Instance.{Instance, ◌at◌}
use Rattle.model.specs.Ranges.{All, GoodPrice}
use Rattle.model.specs.Tree.{Multipliers}
use Rattle.text.specs.Lines.{Line, ended}
use Rattle.text.specs.Forms.{Form, form, plain, all_within, values_of, numbers_of, any_minus, good_line}
use Rattle.text.specs.Rendering.{plain_line}
use Rattle.text.proofs.Cuts.{and_both}
use Rattle.text.proofs.Accepted.{Fits, rendered_line, good_rendered}
use Rattle.text.proofs.Plain.{AllBetween, plain_fits, IsPlain, plain_was, one_between}
use Rattle.tree.specs.NodeLines.{named}

-- ---- a good line of a form without a minus

pub record Was (f : Form) (l : Line) : Type 0 where
  pub line : l ≡ rendered_line f false (numbers_of f l)
  pub fits : Fits f false (numbers_of f l)

pub was_written : (f : Form) → f.minus ≡ 0 → (l : Line) → good_line f l ≡ true → Was f l
was_written f z l g =
    let a = good_rendered f l g in
    go (any_minus (values_of f l)) a.line a.fits
  where
    go : (neg : Bool) → l ≡ rendered_line f neg (numbers_of f l) → Fits f neg (numbers_of f l) → Was f l
    go false e w = record { line = e; fits = w }
    go true e w = absurd (let s = (w.sign refl).0 in omega arith)

-- ---- multipliers

all_between : (l : List ℕ) → All GoodPrice l → AllBetween 0 1000000000 l
all_between [] h i k = absurd (omega arith)
all_between (x ∷ l) h zero k = h.0
all_between (x ∷ l) h (suc i) k = all_between l h.1 i (omega arith)

pub between_all : (l : List ℕ) → AllBetween 0 1000000000 l → All GoodPrice l
between_all [] h = tt
between_all (x ∷ l) h = (h 0 (omega arith), between_all l (λ i k. h (suc i) (omega arith)))

module _ (n : ℕ) (key : List ℕ) where
  pub many_fit : 1 ≤ n → (l : List ℕ) → (length l ≡ n) × All GoodPrice l → Fits (plain key n 0 1000000000) false l
  many_fit some l m = plain_fits key n 0 1000000000 l some m.0 (all_between l m.1)

  pub were_many : (l : Line) → IsPlain key n 0 1000000000 l
      → (length (numbers_of (plain key n 0 1000000000) l) ≡ n) × All GoodPrice (numbers_of (plain key n 0 1000000000) l)
  were_many l w = (w.count, between_all (numbers_of (plain key n 0 1000000000) l) w.range)

-- one for each period
module _ (P : Instance) (key : List ℕ) where
  pub multipliers_fit : 1 ≤ P.periods → (l : List ℕ) → Multipliers P l → Fits (plain key P.periods 0 1000000000) false l
  multipliers_fit = many_fit P.periods key

  pub was_multipliers : (l : Line) → IsPlain key P.periods 0 1000000000 l → Multipliers P (numbers_of (plain key P.periods 0 1000000000) l)
  was_multipliers = were_many P.periods key

-- ---- one number

pub one_fits : (key : List ℕ) (hi v : ℕ) → v < hi → Fits (plain key 1 1 hi) false (suc v ∷ [])
one_fits key hi v h = plain_fits key 1 1 hi (suc v ∷ []) (omega arith) refl (one_between 1 hi (suc v) (omega arith) h)

pub record WasOne (key : List ℕ) (hi : ℕ) (l : Line) : Type 0 where
  pub line : l ≡ ended (plain_line key (suc (named (plain key 1 1 hi) l 0) ∷ []))
  pub range : named (plain key 1 1 hi) l 0 < hi

pub was_one : (key : List ℕ) (hi : ℕ) (l : Line) → good_line (plain key 1 1 hi) l ≡ true → WasOne key hi l
was_one key hi l g = let w = plain_was key 1 1 hi l g in go (numbers_of (plain key 1 1 hi) l) refl w.count w.line w.range
  where
    go : (vs : List ℕ) → numbers_of (plain key 1 1 hi) l ≡ vs → length vs ≡ 1 → l ≡ ended (plain_line key vs) → AllBetween 1 hi vs → WasOne key hi l
    go [] e c line r = absurd (omega arith)
    go (v ∷ []) e c line r =
        let b = r 0 (omega arith) in
        let z : suc (pred v) ≡ v = omega arith in
        record { line = rw (e, z) line; range = rw e (omega arith) }
    go (v ∷ w ∷ vs) e c line r = absurd (omega arith)

-- ---- two numbers, each with its range

module _ (key : List ℕ) (a b c d : ℕ) where
  pub two_fits : (u v : ℕ) → a ≤ u → u ≤ b → c ≤ v → v ≤ d → Fits (form key 0 (a ∷ c ∷ []) (b ∷ d ∷ [])) false (u ∷ v ∷ [])
  two_fits u v h i j k = record {
    some = omega arith;
    count = refl;
    range = simp (le-leb a u h, le-leb u b i, le-leb c v j, le-leb v d k);
    sign = λ z. absurd (let y : ◌≡◌ {A = ℕ} 0 1 = cc in omega arith);
  }

  pub record WasTwo (l : Line) (u v : ℕ) : Type 0 where
    pub line : l ≡ ended (plain_line key (u ∷ v ∷ []))
    pub first : (a ≤ u) × (u ≤ b)
    pub second : (c ≤ v) × (v ≤ d)

  pub was_two : (l : Line) → good_line (form key 0 (a ∷ c ∷ []) (b ∷ d ∷ [])) l ≡ true
      → let vs = numbers_of (form key 0 (a ∷ c ∷ []) (b ∷ d ∷ [])) l in WasTwo l (vs at 0) (vs at 1)
  was_two l p =
      let w = was_written (form key 0 (a ∷ c ∷ []) (b ∷ d ∷ [])) refl l p in
      go (numbers_of (form key 0 (a ∷ c ∷ []) (b ∷ d ∷ [])) l) w.line w.fits.count w.fits.range
    where
      go : (vs : List ℕ) → l ≡ ended (plain_line key vs) → length vs ≡ 2 → all_within vs (a ∷ c ∷ []) (b ∷ d ∷ []) ≡ true → WasTwo l (vs at 0) (vs at 1)
      go [] line n r = absurd (omega arith)
      go (u ∷ []) line n r = absurd (omega arith)
      go (u ∷ v ∷ []) line n r =
          let x = and_both (leb a u) (leb u b && (leb c v && (leb v d && true))) r in
          let y = and_both (leb u b) (leb c v && (leb v d && true)) x.1 in
          let z = and_both (leb c v) (leb v d && true) y.1 in
          let w = and_both (leb v d) true z.1 in
          record { line = line; first = (leb-true a u x.0, leb-true u b y.0); second = (leb-true c v z.0, leb-true v d w.0) }
      go (u ∷ v ∷ w ∷ vs) line n r = absurd (omega arith)
