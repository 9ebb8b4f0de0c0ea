-- The rows over which a unit's least value is taken stand in order: of two the one that comes first has the smaller output, 0 for off, where they first differ.
use mathlib.Core.Path.{◌≡◌, refl, subst}
use mathlib.Core.Bool.{Bool, true, false, cond}
use mathlib.Core.Logic.{◌⊎◌, inl, inr}
use mathlib.Core.List.Memᴰ
use mathlib.Core.List.{List, [], ◌∷◌, ◌++◌, map, Memᴰ}
use Prim.Native.Nat.{ℕ, zero, suc, ◌-◌, ◌<◌}
use native.Mathlib.Omega.{arith}
use Rattle.model.specs.declared.generator.Generator.{Generator}
use Rattle.model.specs.Instance.{◌at◌}
use Rattle.model.specs.Rules.{statuses}
use Rattle.model.specs.Above.{Mark, obeys}
use Rattle.model.specs.Leaf.{gather, words, those, range, outputs, rows_of}
use Rattle.model.specs.Runs.{Smaller}
use Rattle.model.proofs.Lowest.{compare}
use Rattle.model.proofs.Candidates.{gather_inv, those_inv, range_inv}

-- ---- lists in order

-- each member stands before all after it
abbrev pub InOrder : {A : Type 0} → (A → A → Type 0) → List A → Type 0
InOrder R [] = Unit {0}
InOrder {A} R (x ∷ l) = ((y : A) → Memᴰ y l → R x y) × InOrder R l

module _ {A : Type 0} (R : A → A → Type 0) where
  append_order : (l l' : List A) → InOrder R l → InOrder R l' → ((x y : A) → Memᴰ x l → Memᴰ y l' → R x y) → InOrder R (l ++ l')
  append_order [] l' o o' h = o'
  append_order (x ∷ l) l' o o' h = (
    λ y m. either y (Memᴰ.append_cases l m),
    append_order l l' o.1 o' (λ a b i j. h a b (Memᴰ.tail i) j),
  )
    where
      either : (y : A) → Memᴰ y l ⊎ Memᴰ y l' → R x y
      either y (inl i) = o.0 y i
      either y (inr j) = h x y (Memᴰ.head refl) j

  those_order : (p : A → Bool) (l : List A) → InOrder R l → InOrder R (those p l)
  those_order p [] o = tt
  those_order p (x ∷ l) o = go (p x) (those_order p l o.1)
    where
      go : (c : Bool) → InOrder R (those p l) → InOrder R (cond c (x ∷ those p l) (those p l))
      go true i = (λ y m. o.0 y (those_inv p l m).0, i)
      go false i = i

map_order : {A B : Type 0} (R : A → A → Type 0) (S : B → B → Type 0) (f : A → B) → ((x y : A) → R x y → S (f x) (f y)) → (l : List A) → InOrder R l → InOrder S (map f l)
map_order R S f h [] o = tt
map_order {A} {B} R S f h (x ∷ l) o = (
  λ y m. let i = Memᴰ.of_map f l m in subst (λ (z : B). S (f x) z) i.2 (h x i.0 (o.0 i.0 i.1)),
  map_order R S f h l o.1,
)

-- ---- rows in order

-- one period more in front
smaller_later : (p : ℕ) (r r' : List ℕ) → Smaller r r' → Smaller (p ∷ r) (p ∷ r')
smaller_later p r r' s = record { period = suc s.period; same = go; less = s.less }
  where
    go : (v : ℕ) → v < suc s.period → (p ∷ r) at v ≡ (p ∷ r') at v
    go zero l = refl
    go (suc v) l = s.same v (omega arith)

smaller_now : (p p' : ℕ) (r r' : List ℕ) → p < p' → Smaller (p ∷ r) (p' ∷ r')
smaller_now p p' r r' h = record { period = 0; same = λ v l. absurd (omega arith); less = h }

-- rows with these outputs in front, in order, before rows in order
fronts_order : (rows : List (List ℕ)) → InOrder Smaller rows → (al : List ℕ) → InOrder ◌<◌ al → InOrder Smaller (gather (λ a. map (λ w. a ∷ w) rows) al)
fronts_order rows o [] i = tt
fronts_order rows o (a ∷ al) i =
    append_order Smaller (map (λ w. a ∷ w) rows) (gather (λ a. map (λ w. a ∷ w) rows) al)
    (map_order Smaller Smaller (λ (w : List ℕ). a ∷ w) (λ x y s. smaller_later a x y s) rows o)
    (fronts_order rows o al i.1)
    (λ x y j k. across x y (Memᴰ.of_map (λ (w : List ℕ). a ∷ w) rows j) (gather_inv (λ a. map (λ w. a ∷ w) rows) al k))
  where
    across : (x y : List ℕ) → (w : List ℕ) × Memᴰ w rows × (a ∷ w ≡ x)
        → (b : ℕ) × Memᴰ b al × Memᴰ y (map (λ w. b ∷ w) rows) → Smaller x y
    across x y j k =
        let e = Memᴰ.of_map (λ (w : List ℕ). k.0 ∷ w) rows k.2 in
        subst (λ (z : List ℕ). Smaller z y) j.2
        (subst (λ (z : List ℕ). Smaller (a ∷ j.0) z) e.2 (smaller_now a k.0 j.0 e.0 (i.0 k.0 k.1)))

words_order : (al : List ℕ) → InOrder ◌<◌ al → (n : ℕ) → InOrder Smaller (words al n)
words_order al o zero = (λ y m. absurd (Memᴰ.not-nil m), tt)
words_order al o (suc n) = fronts_order (words al n) (words_order al o n) al o

range_order : (k m : ℕ) → InOrder ◌<◌ (range k m)
range_order k zero = tt
range_order k (suc m) = (λ y i. let h = range_inv (suc k) m y i in omega (arith, h.0), range_order (suc k) m)

outputs_order : (g : Generator) → 0 < g.pL → InOrder ◌<◌ (outputs g)
outputs_order g positive = (
  λ y i. let h = range_inv g.pL (suc g.pU - g.pL) y i in omega (arith, h.0),
  range_order g.pL (suc g.pU - g.pL),
)

pub rows_order : (n : ℕ) (g : Generator) (m : ℕ → Mark) → 0 < g.pL → InOrder Smaller (rows_of n g m)
unfolding rows_of
rows_order n g m positive = those_order Smaller (λ r. obeys g m (statuses r)) (words (outputs g) n) (words_order (outputs g) (outputs_order g positive) n)

-- no two rows stand before each other
pub smaller_asym : (r r' : List ℕ) → Smaller r r' → Smaller r' r → ⊥
smaller_asym r r' a b = go (compare a.period b.period)
  where
    go : (a.period < b.period) ⊎ ((a.period ≡ b.period) ⊎ (b.period < a.period)) → ⊥
    go (inl h) = omega (arith, a.less, b.same a.period h)
    go (inr (inl e)) = omega (arith, b.less, subst (λ (p : ℕ). r at p < r' at p) e a.less)
    go (inr (inr h)) = omega (arith, b.less, a.same b.period h)
