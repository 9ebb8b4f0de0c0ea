-- Laws of what is said of one unit with its row, and how it bears on what is said of each. By induction on the units.
use mathlib.Core.Path.{◌≡◌, refl}
use mathlib.Core.List.{List, [], ◌∷◌}
use Prim.Native.Nat.{ℕ, zero, suc, ◌<◌}
use Rattle.model.specs.declared.generator.Generator.{Generator}
use Rattle.model.specs.Instance.{Schedule, Each}
use Rattle.model.specs.Broken.{Of}

-- a unit counted from 1
abbrev pub Counted : (ℕ → Type 0) → ℕ → Type 0
Counted Q zero = ⊥
Counted Q (suc u) = Q u

pub counted_unit : (Q : ℕ → Type 0) (v : ℕ) → Counted Q v → (u : ℕ) × (v ≡ suc u) × Q u
counted_unit Q zero h = absurd h
counted_unit Q (suc u) h = (u, refl, h)

pub counted_none : (Q : ℕ → Type 0) → ((u : ℕ) → Q u → ⊥) → (v : ℕ) → Counted Q v → ⊥
counted_none Q n zero h = h
counted_none Q n (suc u) h = n u h

pub of_map : (Q R : Generator → List ℕ → Type 0) → ((g : Generator) (r : List ℕ) → Q g r → R g r)
    → (u : ℕ) (gs : List Generator) (rows : Schedule) → Of u Q gs rows → Of u R gs rows
of_map Q R f u [] rows h = h
of_map Q R f u (g ∷ gs) [] h = h
of_map Q R f zero (g ∷ gs) (r ∷ rows) h = f g r h
of_map Q R f (suc u) (g ∷ gs) (r ∷ rows) h = of_map Q R f u gs rows h

-- what a unit has in period t and in none before, its row has first in t
pub of_first : (Q : ℕ → Generator → List ℕ → Type 0) (t u : ℕ) (gs : List Generator) (rows : Schedule) → Of u (Q t) gs rows
    → ((i : ℕ) → i < t → Of u (Q i) gs rows → ⊥) → Of u (λ g r. Q t g r × ((i : ℕ) → i < t → Q i g r → ⊥)) gs rows
of_first Q t u [] rows h n = h
of_first Q t u (g ∷ gs) [] h n = h
of_first Q t zero (g ∷ gs) (r ∷ rows) h n = (h, n)
of_first Q t (suc u) (g ∷ gs) (r ∷ rows) h n = of_first Q t u gs rows h n

-- what each unit has, no unit lacks
pub each_not : (R Q : Generator → List ℕ → Type 0) → ((g : Generator) (r : List ℕ) → R g r → Q g r → ⊥)
    → (u : ℕ) (gs : List Generator) (rows : Schedule) → Each R gs rows → Of u Q gs rows → ⊥
each_not R Q n u [] rows e h = h
each_not R Q n u (g ∷ gs) [] e h = h
each_not R Q n zero (g ∷ gs) (r ∷ rows) e h = n g r e.0 h
each_not R Q n (suc u) (g ∷ gs) (r ∷ rows) e h = each_not R Q n u gs rows e.1 h
