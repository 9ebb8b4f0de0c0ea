-- A tree leaf by leaf: it holds exactly when every leaf's rule holds under what stands above that leaf, and its bound is the
-- smallest of its leaves' bounds, a price leaf's or a ramp leaf's being its value and any other's never. Both by induction on the tree.
use mathlib.Core.Path.{◌≡◌, refl, ap₂, ◌∙◌}
use mathlib.Core.Bool.{Bool, true, false, not, cond}
use mathlib.Core.Logic.{◌⊎◌, inl, inr, ◌↔◌}
use Prim.Native.Nat.{ℕ}
use native.Mathlib.Omega.{arith}
use lib.Dec.{T, not_T}
use lib.IntN.{ℤ}
use lib.Signed.{le_z, lt_z, ◌≤ℤ◌}
use Rattle.model.specs.Instance.{Instance}
use Rattle.model.specs.Above.{Above, side}
use Rattle.model.specs.Leaf.{minℤ}
use Rattle.model.specs.Figures.{Bound}
use Rattle.std.specs.Prelude.{None as never, Some as number}
use Rattle.model.specs.Figures.{lower}
use Rattle.model.specs.Tree.{Leaf, short, crowd, stuck, price, ramp, Tree, leaf, fork, HasPrices, LeafHolds, leaf_bound, Holds, bound}
use Rattle.model.specs.Best.{higher}
use Rattle.model.proofs.Integers.{le→nat, min_left, min_right, ltZ→nat, nltZ→nat}
use Rattle.model.specs.Agreement.{LeafOf, above, leaf_at}

-- ---- the rules

pub holds_every : (P : Instance) (A : Above) (t : Tree) → Holds P A t → (i : LeafOf t) → LeafHolds P (above A t i) (leaf_at t i)
unfolding Holds
holds_every P A (leaf l) h i = h
holds_every P A (fork f x y) h (inl i) = holds_every P (side f false A) x h.0 i
holds_every P A (fork f x y) h (inr i) = holds_every P (side f true A) y h.1 i

pub every_holds : (P : Instance) (A : Above) (t : Tree) → ((i : LeafOf t) → LeafHolds P (above A t i) (leaf_at t i)) → Holds P A t
unfolding Holds
every_holds P A (leaf l) h = h tt
every_holds P A (fork f x y) h = (every_holds P (side f false A) x (λ i. h (inl i)), every_holds P (side f true A) y (λ i. h (inr i)))

-- ---- the smaller of two bounds, `never` being above every number

-- it is one of the two
pub lower_cases : (x y : Bound) → (lower x y ≡ x) ⊎ (lower x y ≡ y)
lower_cases never y = inr refl
lower_cases (number v) never = inl refl
lower_cases (number v) (number w) = go (le_z v w)
  where
    go : (c : Bool) → (number (cond c v w) ≡ number v) ⊎ (number (cond c v w) ≡ number w)
    go true = inl refl
    go false = inr refl

-- it is not above what one of the two is not above
not_above : (m v z : ℤ) → m ≤ℤ v → T (not (lt_z z v)) → T (not (lt_z z m))
not_above m v z l h = not_T (lt_z z m) (λ k. omega (arith, ltZ→nat z m k, le→nat m v l, nltZ→nat z v h))

pub lower_not_left : (x y z : Bound) → T (not (higher x z)) → T (not (higher (lower x y) z))
lower_not_left never never z h = h
lower_not_left never (number w) never h = tt
lower_not_left never (number w) (number z) h = absurd h
lower_not_left (number v) never z h = h
lower_not_left (number v) (number w) never h = tt
lower_not_left (number v) (number w) (number z) h = not_above (minℤ v w) v z (min_left v w) h

pub lower_not_right : (x y z : Bound) → T (not (higher y z)) → T (not (higher (lower x y) z))
lower_not_right never y z h = h
lower_not_right (number v) never never h = tt
lower_not_right (number v) never (number z) h = absurd h
lower_not_right (number v) (number w) never h = tt
lower_not_right (number v) (number w) (number z) h = not_above (minℤ v w) w z (min_right v w) h

pub not_above_self : (x : Bound) → T (not (higher x x))
not_above_self never = tt
not_above_self (number v) = not_T (lt_z v v) (λ k. omega (arith, ltZ→nat v v k))

-- ---- the bound

-- some leaf has it
pub bound_attained : (P : Instance) (A : Above) (t : Tree) → (i : LeafOf t) × (bound P A t ≡ leaf_bound P (above A t i) (leaf_at t i))
unfolding bound
bound_attained P A (leaf l) = (tt, refl)
bound_attained P A (fork f x y) = go (lower_cases X Y) (bound_attained P (side f false A) x) (bound_attained P (side f true A) y)
  where
    X : Bound
    X = bound P (side f false A) x

    Y : Bound
    Y = bound P (side f true A) y

    go : (lower X Y ≡ X) ⊎ (lower X Y ≡ Y) → ((i : LeafOf x) × (X ≡ leaf_bound P (above (side f false A) x i) (leaf_at x i)))
        → ((i : LeafOf y) × (Y ≡ leaf_bound P (above (side f true A) y i) (leaf_at y i)))
        → (i : LeafOf (fork f x y)) × (lower X Y ≡ leaf_bound P (above A (fork f x y) i) (leaf_at (fork f x y) i))
    go (inl e) a b = (inl a.0, e ∙ a.1)
    go (inr e) a b = (inr b.0, e ∙ b.1)

-- and it is above no leaf's
pub bound_lowest : (P : Instance) (A : Above) (t : Tree) (i : LeafOf t) → T (not (higher (bound P A t) (leaf_bound P (above A t i) (leaf_at t i))))
unfolding bound
bound_lowest P A (leaf l) i = not_above_self (leaf_bound P A l)
bound_lowest P A (fork f x y) (inl i) =
    lower_not_left (bound P (side f false A) x) (bound P (side f true A) y) _ (bound_lowest P (side f false A) x i)
bound_lowest P A (fork f x y) (inr i) =
    lower_not_right (bound P (side f false A) x) (bound P (side f true A) y) _ (bound_lowest P (side f true A) y i)

-- it is never exactly where no leaf has prices
pub never_exactly : (P : Instance) (A : Above) (t : Tree) → (bound P A t ≡ never) ↔ ((i : LeafOf t) → HasPrices (leaf_at t i) → ⊥)
unfolding bound leaf_bound
never_exactly P A (leaf l) = go l
  where
    go : (l : Leaf) → (leaf_bound P A l ≡ never) ↔ ((i : Unit {0}) → HasPrices l → ⊥)
    go (short t) = ((λ e i h. h), (λ f. refl))
    go (crowd t) = ((λ e i h. h), (λ f. refl))
    go (stuck U) = ((λ e i h. h), (λ f. refl))
    go (price q s) = ((λ e i h. absurd (let z : ◌≡◌ {A = ℕ} 0 1 = cc in omega arith)), (λ f. absurd (f tt tt)))
    go (ramp q s k) = ((λ e i h. absurd (let z : ◌≡◌ {A = ℕ} 0 1 = cc in omega arith)), (λ f. absurd (f tt tt)))
never_exactly P A (fork f x y) =
    let X = bound P (side f false A) x in
    let Y = bound P (side f true A) y in
    let a = never_exactly P (side f false A) x in
    let b = never_exactly P (side f true A) y in
    ((λ e. split (a.0 (both X Y e).0) (b.0 (both X Y e).1)), (λ h. ap₂ lower (a.1 (λ i. h (inl i))) (b.1 (λ i. h (inr i)))))
  where
    both : (v w : Bound) → lower v w ≡ never → (v ≡ never) × (w ≡ never)
    both never w e = (refl, e)
    both (number v) never e = absurd (let z : ◌≡◌ {A = ℕ} 0 1 = cc in omega arith)
    both (number v) (number w) e = absurd (let z : ◌≡◌ {A = ℕ} 0 1 = cc in omega arith)

    split : ((i : LeafOf x) → HasPrices (leaf_at x i) → ⊥) → ((i : LeafOf y) → HasPrices (leaf_at y i) → ⊥) → (i : LeafOf (fork f x y)) → HasPrices (leaf_at (fork f x y) i) → ⊥
    split a b (inl i) h = a i h
    split a b (inr i) h = b i h
