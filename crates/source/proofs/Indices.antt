-- Sums and ranges that begin with 1, against the model's, which begin with 0: each law is one step along the periods or along the units.
use mathlib.Core.Path.{◌≡◌, refl, ap, ap₂}
use mathlib.Core.List.{List, [], ◌∷◌}
use Prim.Native.Nat.{ℕ, zero, suc, ◌+◌, ◌-◌, ◌≤◌, ◌<◌}
use native.Mathlib.Omega.{arith}
use native.Mathlib.Nat.{suc_inj}
use lib.ListN.{length, get_or}
use Rattle.model.specs.declared.generator.Generator.{Generator}
use Rattle.model.specs.Instance.{Instance, Schedule, sum_units, Each}
use Rattle.model.specs.Ranges.{All, Shaped}
use Rattle.model.specs.Rules.{Row, MeetsPrinted}
use Rattle.source.specs.Source.{Σ₁, Σᵢ, Every}

-- ---- a rule for t = 1, 2, .., n, and one for t = 2, 3, .., n of two periods in a row

pub from_one : (n : ℕ) (Q : ℕ → Type 0) → ((t : ℕ) → t < n → Q (suc t)) → (t : ℕ) → 1 ≤ t → t ≤ n → Q t
from_one n Q f zero l m = absurd (omega arith)
from_one n Q f (suc t) l m = f t m

pub from_two : (n : ℕ) (Q : ℕ → ℕ → Type 0) → ((t : ℕ) → suc t < n → Q (suc t) (suc (suc t))) → (t : ℕ) → 2 ≤ t → t ≤ n → Q (t - 1) t
from_two n Q f zero l m = absurd (omega arith)
from_two n Q f (suc zero) l m = absurd (omega arith)
from_two n Q f (suc (suc t)) l m = let q : suc (suc t) - 1 ≡ suc t = omega arith in rw q (f t m)

-- ---- over periods

pub Σ₁_same : (n : ℕ) (f h : ℕ → ℕ) → ((t : ℕ) → 1 ≤ t → t ≤ n → f t ≡ h t) → Σ₁ n f ≡ Σ₁ n h
Σ₁_same zero f h e = refl
Σ₁_same (suc n) f h e =
    ap₂ ◌+◌ (e 1 (omega arith) (omega arith)) (Σ₁_same n (λ t. f (suc t)) (λ t. h (suc t)) (λ t l m. e (suc t) (omega arith) (omega arith)))

pub Σ₁_le : (n : ℕ) (f h : ℕ → ℕ) → ((t : ℕ) → 1 ≤ t → t ≤ n → f t ≤ h t) → Σ₁ n f ≤ Σ₁ n h
Σ₁_le zero f h e = omega arith
Σ₁_le (suc n) f h e =
    omega (arith, e 1 (omega arith) (omega arith), Σ₁_le n (λ t. f (suc t)) (λ t. h (suc t)) (λ t l m. e (suc t) (omega arith) (omega arith)))

-- a sum is 0 exactly if all its parts are
pub none→sum : (n : ℕ) (f : ℕ → ℕ) → ((j : ℕ) → 1 ≤ j → j ≤ n → f j ≡ 0) → Σ₁ n f ≡ 0
none→sum zero f h = refl
none→sum (suc n) f h = omega (arith, h 1 (omega arith) (omega arith), none→sum n (λ j. f (suc j)) (λ j l m. h (suc j) (omega arith) (omega arith)))

pub sum→none : (n : ℕ) (f : ℕ → ℕ) → Σ₁ n f ≡ 0 → (j : ℕ) → 1 ≤ j → j ≤ n → f j ≡ 0
sum→none zero f e j l m = absurd (omega arith)
sum→none (suc n) f e zero l m = absurd (omega arith)
sum→none (suc n) f e (suc zero) l m = omega arith
sum→none (suc n) f e (suc (suc j)) l m = sum→none n (λ j. f (suc j)) (omega arith) (suc j) (omega arith) (omega arith)

-- ---- over units

pub Σᵢ_same : (f f' : ℕ → Generator → ℕ) (gs : List Generator) → Every (λ i g. f i g ≡ f' i g) gs → Σᵢ f gs ≡ Σᵢ f' gs
Σᵢ_same f f' [] e = refl
Σᵢ_same f f' (g ∷ gs) e = ap₂ ◌+◌ e.0 (Σᵢ_same (λ i h. f (suc i) h) (λ i h. f' (suc i) h) gs e.1)

pub Σᵢ_le : (f f' : ℕ → Generator → ℕ) (gs : List Generator) → Every (λ i g. f i g ≤ f' i g) gs → Σᵢ f gs ≤ Σᵢ f' gs
Σᵢ_le f f' [] e = omega arith
Σᵢ_le f f' (g ∷ gs) e = omega (arith, e.0, Σᵢ_le (λ i h. f (suc i) h) (λ i h. f' (suc i) h) gs e.1)

pub every_all : (R : ℕ → Generator → Type 0) (gs : List Generator) → ((i : ℕ) (g : Generator) → R i g) → Every R gs
every_all R [] f = tt
every_all R (g ∷ gs) f = (f 1 g, every_all (λ i h. R (suc i) h) gs (λ i h. f (suc i) h))

pub every_map : (R Q : ℕ → Generator → Type 0) (gs : List Generator) → ((i : ℕ) (g : Generator) → R i g → Q i g) → Every R gs → Every Q gs
every_map R Q [] f h = tt
every_map R Q (g ∷ gs) f h = (f 1 g h.0, every_map (λ i h. R (suc i) h) (λ i h. Q (suc i) h) gs (λ i h. f (suc i) h) h.1)

pub every_both : (R Q : ℕ → Generator → Type 0) (gs : List Generator) → Every R gs → Every Q gs → Every (λ i g. R i g × Q i g) gs
every_both R Q [] h k = tt
every_both R Q (g ∷ gs) h k = ((h.0, k.0), every_both (λ i h. R (suc i) h) (λ i h. Q (suc i) h) gs h.1 k.1)

-- for every period of every unit, whichever is named first
pub every_period : (n : ℕ) (Q : ℕ → ℕ → Generator → Type 0) (gs : List Generator) → ((t : ℕ) → 1 ≤ t → t ≤ n → Every (λ i g. Q t i g) gs)
    → Every (λ i g. (t : ℕ) → 1 ≤ t → t ≤ n → Q t i g) gs
every_period n Q [] h = tt
every_period n Q (g ∷ gs) h = (λ t l m. (h t l m).0, every_period n (λ t i h. Q t (suc i) h) gs (λ t l m. (h t l m).1))

pub all→every : (R : Generator → Type 0) (gs : List Generator) → All R gs → Every (λ i g. R g) gs
all→every R [] h = tt
all→every R (g ∷ gs) h = (h.0, all→every R gs h.1)

-- ---- units with their rows

pub each_map : (Q R : Generator → List ℕ → Type 0) → ((g : Generator) (r : List ℕ) → Q g r → R g r) → (gs : List Generator) (s : Schedule)
    → Each Q gs s → Each R gs s
each_map Q R f [] [] h = tt
each_map Q R f [] (r ∷ s) h = h
each_map Q R f (g ∷ gs) [] h = h
each_map Q R f (g ∷ gs) (r ∷ s) h = (f g r h.0, each_map Q R f gs s h.1)

pub each→every : (gs : List Generator) (s : Schedule) (K R : ℕ → Generator → Type 0) (Q : Generator → List ℕ → Type 0)
    → ((i : ℕ) (g : Generator) → K (suc i) g → Q g (get_or s i []) → R (suc i) g) → Every K gs → Each Q gs s → Every R gs
each→every [] s K R Q f k h = tt
each→every (g ∷ gs) [] K R Q f k h = absurd h
each→every (g ∷ gs) (r ∷ s) K R Q f k h =
    (f 0 g k.0 h.0, each→every gs s (λ i h. K (suc i) h) (λ i h. R (suc i) h) Q (λ i h. f (suc i) h) k.1 h.1)

pub every→each : (gs : List Generator) (s : Schedule) (R : ℕ → Generator → Type 0) (L Q : Generator → List ℕ → Type 0)
    → ((i : ℕ) (g : Generator) → L g (get_or s i []) → R (suc i) g → Q g (get_or s i [])) → Each L gs s → Every R gs → Each Q gs s
every→each [] [] R L Q f l h = tt
every→each [] (r ∷ s) R L Q f l h = absurd l
every→each (g ∷ gs) [] R L Q f l h = absurd l
every→each (g ∷ gs) (r ∷ s) R L Q f l h = (f 0 g l.0 h.0, every→each gs s (λ i h. R (suc i) h) L Q (λ i h. f (suc i) h) l.1 h.1)

pub Σᵢ_is : (F : Generator → List ℕ → ℕ) (gs : List Generator) (s : Schedule) (f : ℕ → Generator → ℕ) (L : Generator → List ℕ → Type 0) → Each L gs s
    → ((i : ℕ) (g : Generator) → f (suc i) g ≡ F g (get_or s i [])) → Σᵢ f gs ≡ sum_units F gs s
Σᵢ_is F [] s f L w e = refl
Σᵢ_is F (g ∷ gs) [] f L w e = absurd w
Σᵢ_is F (g ∷ gs) (r ∷ s) f L w e = ap₂ ◌+◌ (e 0 g) (Σᵢ_is F gs s (λ i h. f (suc i) h) L w.1 (λ i h. e (suc i) h))

-- ---- I rows of T outputs

-- the model's `Shaped`, unit by unit
abbrev pub Shape : Instance → Schedule → Type 0
Shape P s = Each (λ g r. length r ≡ P.periods) P.units s

pub shape_of : (P : Instance) (s : Schedule) → MeetsPrinted P s → Shape P s
shape_of P s M = each_map (Row P.periods) (λ g r. length r ≡ P.periods) (λ g r R. R.long) P.units s M.rows

pub shaped→shape : (P : Instance) (s : Schedule) → Shaped P s → Shape P s
shaped→shape P s w = go P.units s w.0 w.1
  where
    go : (gs : List Generator) (s : Schedule) → length s ≡ length gs → All (λ r. length r ≡ P.periods) s → Each (λ g r. length r ≡ P.periods) gs s
    go [] [] e h = tt
    go [] (r ∷ s) e h = absurd (omega arith)
    go (g ∷ gs) [] e h = absurd (omega arith)
    go (g ∷ gs) (r ∷ s) e h = (h.0, go gs s (suc_inj e) h.1)

pub shape→shaped : (P : Instance) (s : Schedule) → Shape P s → Shaped P s
shape→shaped P s w = go P.units s w
  where
    go : (gs : List Generator) (s : Schedule) → Each (λ g r. length r ≡ P.periods) gs s → (length s ≡ length gs) × All (λ r. length r ≡ P.periods) s
    go [] [] h = (refl, tt)
    go [] (r ∷ s) h = absurd h
    go (g ∷ gs) [] h = absurd h
    go (g ∷ gs) (r ∷ s) h = let w = go gs s h.1 in (ap suc w.0, (h.0, w.1))
