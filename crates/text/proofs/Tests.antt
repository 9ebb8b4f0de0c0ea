-- A line is refused by a number exactly where its test is the first that holds, and good exactly where none holds: test by test.
use Prim.Native.Nat.{ℕ, ◌<◌}
use native.Mathlib.Omega.{arith}
use mathlib.Core.Path.{◌≡◌, refl}
use mathlib.Core.Bool.{true, false}
use mathlib.Core.List.{List, [], ◌∷◌}
use mathlib.Core.Logic.{◌↔◌}
use Rattle.text.specs.Course.{refused, good}
use Rattle.text.specs.Tests.{Test, ◌if◌, FirstTrue, this, after, None, first_true, found}

-- ---- refused, and good

module _ {S : Type 0} (s : S) where
  found_first : (n : ℕ) (ts : List Test) → found ts s ≡ refused n → FirstTrue n ts
  found_first n [] e = absurd (let z : ◌≡◌ {A = ℕ} 0 1 = cc in omega arith)
  found_first n (m if true ∷ ts) e =
      let q : m ≡ n = cc in
      rw q (this refl)
  found_first n (m if false ∷ ts) e = after refl (found_first n ts e)

  first_found : (n : ℕ) (ts : List Test) → FirstTrue n ts → found ts s ≡ refused n
  first_found n [] x = elim x [ ]
  first_found n (m if b ∷ ts) (this e) = rw e refl
  first_found n (m if b ∷ ts) (after e f) = rw e (first_found n ts f)

  pub found_refused_is : (n : ℕ) (ts : List Test) → (found ts s ≡ refused n) ↔ FirstTrue n ts
  found_refused_is n ts = (found_first n ts, first_found n ts)

  -- where no test holds the line is good
  pub none_good : (ts : List Test) → None ts → found ts s ≡ good s
  none_good [] h = refl
  none_good (n if b ∷ ts) h = rw h.0 (none_good ts h.1)

  pub good_none : (s' : S) (ts : List Test) → found ts s ≡ good s' → None ts × (s ≡ s')
  good_none s' [] e = (tt, cc)
  good_none s' (n if true ∷ ts) e = absurd (let z : ◌≡◌ {A = ℕ} 0 1 = cc in omega arith)
  good_none s' (n if false ∷ ts) e = let r = good_none s' ts e in ((refl, r.0), r.1)

-- ---- the number

pub number_first : (n : ℕ) → 0 < n → (ts : List Test) → (first_true ts ≡ n) ↔ FirstTrue n ts
number_first n h ts = (forth ts, back ts)
  where
    forth : (ts : List Test) → first_true ts ≡ n → FirstTrue n ts
    forth [] e = absurd (omega arith)
    forth (m if true ∷ ts) e = rw e (this refl)
    forth (m if false ∷ ts) e = after refl (forth ts e)

    back : (ts : List Test) → FirstTrue n ts → first_true ts ≡ n
    back [] x = elim x [ ]
    back (m if b ∷ ts) (this e) = rw e refl
    back (m if b ∷ ts) (after e f) = rw e (back ts f)

-- what holds of each number holds of the first
abbrev pub Every : (ℕ → Type 0) → List Test → Type 0
Every Q [] = Unit {0}
Every Q (n if b ∷ ts) = Q n × Every Q ts

pub first_every : (Q : ℕ → Type 0) (n : ℕ) (ts : List Test) → Every Q ts → FirstTrue n ts → Q n
first_every Q n [] h x = elim x [ ]
first_every Q n (m if b ∷ ts) h (this e) = h.0
first_every Q n (m if b ∷ ts) h (after e f) = first_every Q n ts h.1 f

-- it is 0 exactly where no test holds
pub number_none : (ts : List Test) → Every (λ n. 0 < n) ts → (first_true ts ≡ 0) ↔ None ts
number_none ts h = (forth ts h, back ts)
  where
    forth : (ts : List Test) → Every (λ n. 0 < n) ts → first_true ts ≡ 0 → None ts
    forth [] h e = tt
    forth (m if true ∷ ts) h e = absurd (let k = h.0 in omega arith)
    forth (m if false ∷ ts) h e = (refl, forth ts h.1 e)

    back : (ts : List Test) → None ts → first_true ts ≡ 0
    back [] n = refl
    back (m if b ∷ ts) n = rw n.0 (back ts n.1)
