-- A line of multipliers read between the first number of a buffer and its last: both stay, and a good line leaves its numbers.
use mathlib.Core.Path.{◌≡◌, refl, sym, ap, subst, ◌∙◌}
use mathlib.Core.Bool.{true}
use mathlib.Core.List.{List, [], ◌∷◌, ◌++◌}
use Prim.Native.Nat.{ℕ, zero, suc, pred, ◌+◌, ◌≤◌, ◌<◌}
use native.Mathlib.Omega.{arith}
use lib.ListN.{length, get_or, take, drop, replicate, length-take, length-drop, length-append, get_or-replicate, get_or-append}
use lib.Seq.{length_front, get_or-append-add, get_or-take, get_or-drop, length-take-le, take_at}
use Rattle.model.specs.Instance.{◌at◌}
use Rattle.model.specs.Ranges.{All, GoodPrice}
use Rattle.least.specs.Limits.{GoodSteps}
use Rattle.text.specs.Lines.{line_at, one_line}
use Rattle.text.specs.Forms.{plain, numbers_of, verdict_of}
use Rattle.text.specs.Scan.{stored_at}
use Rattle.text.specs.declared.Fault.{Fault}
use Rattle.std.specs.Prelude.{Result, Ok}
use Rattle.text.proofs.Fills.{stored_long, PlainFilled, plain_filled}
use Rattle.tree.specs.RampReads.{Padded, inner, steps_stored}
use Rattle.tree.proofs.Lines.{between_all}

-- ---- the buffer

-- the numbers between, replaced by as many
abbrev with_inner : List ℕ → List ℕ → List ℕ
with_inner l y = take 1 l ++ (y ++ drop (inner l) (drop 1 l))

inner_padded : (n : ℕ) (l y : List ℕ) → 1 ≤ n → Padded n l → length y ≡ length (take (inner l) (drop 1 l)) → Padded n (with_inner l y)
inner_padded n [] y h p e = absurd (let a = p.long in omega arith)
inner_padded zero (a ∷ l) y h p e = absurd (omega arith)
inner_padded (suc n) (a ∷ l) y h p e =
    let long = p.long in
    let k : inner (a ∷ l) ≡ n = omega arith in
    let y_long : length y ≡ n + 0 = omega (arith, e, length-take (inner (a ∷ l)) l, length-take-le (inner (a ∷ l)) l (omega arith)) in
    record {
      long = omega (arith, length_front l y (inner (a ∷ l)) e);
      first = p.first;
      last =
          ap (λ (i : ℕ). get_or (y ++ drop (inner (a ∷ l)) l) i 0) {x = n} {y = length y + 0} (omega arith)
          ∙ get_or-append-add y (drop (inner (a ∷ l)) l) 0 0
          ∙ get_or-drop (inner (a ∷ l)) l 0 0
          ∙ ap (λ (i : ℕ). get_or l i 0) {x = inner (a ∷ l) + 0} {y = n} (omega arith)
          ∙ p.last;
    }

-- all of it in range, where the numbers between are
inner_good : (n : ℕ) (l y : List ℕ) → 1 ≤ n → Padded n l → All GoodPrice y → length y ≡ length (take (inner l) (drop 1 l)) → GoodSteps n (with_inner l y)
inner_good n l y h p g e =
    let q = inner_padded n l y h p e in
    record { long = q.long; first = q.first; last = q.last; in_range = go n l h p e }
  where
    both : (a b : List ℕ) → All GoodPrice a → All GoodPrice b → All GoodPrice (a ++ b)
    both [] b u v = v
    both (x ∷ a) b u v = (u.0, both a b u.1 v)

    one : (z : List ℕ) → length z ≡ 1 → z at 0 ≡ 0 → All GoodPrice z
    one [] n e = tt
    one (x ∷ []) n e = ((omega arith, omega (arith, e)), tt)
    one (x ∷ x' ∷ z) n e = absurd (omega arith)

    go : (n : ℕ) (l : List ℕ) → 1 ≤ n → Padded n l → length y ≡ length (take (inner l) (drop 1 l)) → All GoodPrice (with_inner l y)
    go n [] h p e = absurd (let a = p.long in omega arith)
    go zero (a ∷ l) h p e = absurd (omega arith)
    go (suc n) (a ∷ l) h p e =
        let long = p.long in
        let zero_last = ap (λ (i : ℕ). get_or l i 0) {x = inner (a ∷ l) + 0} {y = n} (omega arith) in (
          (omega arith, omega (arith, p.first)),
          both y (drop (inner (a ∷ l)) l) g
              (one (drop (inner (a ∷ l)) l) (omega (arith, length-drop (inner (a ∷ l)) l)) (get_or-drop (inner (a ∷ l)) l 0 0 ∙ zero_last ∙ p.last)),
        )

inner_at : (l y : List ℕ) → 0 < length l → (t : ℕ) → t < length y → with_inner l y at suc t ≡ y at t
inner_at [] y h t i = absurd (omega arith)
inner_at (a ∷ l) y h t i = get_or-append y (drop (inner (a ∷ l)) l) 0 t i

-- ---- a longer array, of which the front is lent

-- zeros
pub zeros_padded : (n e : ℕ) → n ≤ 48 → e ≡ n + 1 → Padded n (take e (replicate 49 0))
zeros_padded n e h k = record {
  long = length-take-le e (replicate 49 0) (omega arith) ∙ omega arith;
  first = get_or-take e (replicate 49 0) 0 0 (omega arith);
  last = get_or-take e (replicate 49 0) n 0 (omega arith) ∙ get_or-replicate 49 n 0 0 (omega arith);
}

-- a front that has come back
module _ (n e : ℕ) (is : e ≡ n + 1) (y l : List ℕ) (p : Padded n y) where
  pub front_back : Padded n (take e (y ++ drop e l))
  front_back = subst (Padded n) (sym (take_at y (drop e l) e (let a = p.long in omega arith))) p

  pub front_long : e ≤ length l → length (y ++ drop e l) ≡ length l
  front_long h = let a = p.long in omega (arith, length-append y (drop e l), length-drop e l)

-- ---- what a line leaves

module _ (n : ℕ) (key text : List ℕ) (here : ℕ) (l : List ℕ) (two : 2 ≤ n) (p : Padded n l) where
  -- as many between as there are steps
  pub inner_steps : inner l ≡ pred n
  inner_steps = let a = p.long in omega arith

  mid_long : length (take (inner l) (drop 1 l)) ≡ pred n
  mid_long = let a = p.long in length-take-le (inner l) (drop 1 l) (omega (arith, length-drop 1 l)) ∙ inner_steps

  kept : length (stored_at key text here (take (inner l) (drop 1 l))) ≡ length (take (inner l) (drop 1 l))
  kept = stored_long key text here (take (inner l) (drop 1 l))

  pub steps_padded : Padded n (steps_stored key text here l)
  steps_padded = inner_padded n l (stored_at key text here (take (inner l) (drop 1 l))) (omega arith) p kept

  module _ (one : one_line key ≡ true) (v : Result ℕ Fault) (is : v ≡ verdict_of (plain key (inner l) 0 1000000000) (line_at text here) here) (next : ℕ) (good : v ≡ Ok next) where
    filled : PlainFilled key (pred n) 0 1000000000 (line_at text here) here next (stored_at key text here (take (inner l) (drop 1 l)))
    filled =
        plain_filled key 0 1000000000 text (take (inner l) (drop 1 l)) here one (omega arith) refl mid_long
        (is ∙ ap (λ (k : ℕ). verdict_of (plain key k 0 1000000000) (line_at text here) here) inner_steps) good

    pub steps_good : GoodSteps n (steps_stored key text here l)
    steps_good = inner_good n l (stored_at key text here (take (inner l) (drop 1 l))) (omega arith) p (between_all (stored_at key text here (take (inner l) (drop 1 l))) filled.range) kept

    -- number t of the line stands behind the first t + 1
    pub steps_at : (t : ℕ) → t < pred n → steps_stored key text here l at suc t ≡ numbers_of (plain key (pred n) 0 1000000000) (line_at text here) at t
    steps_at t i =
        let a = p.long in
        inner_at l (stored_at key text here (take (inner l) (drop 1 l))) (omega arith) t (omega (arith, kept, mid_long))
        ∙ ap (λ (y : List ℕ). y at t) filled.values
