-- Document 01, The docket and its report: the first least and the first highest of a list.
use Rattle.std.specs.Prelude.{◌≡◌, Bool, true, false, not, ℕ, T, ltb}
use mathlib.Core.List.{List, ◌∷◌, ◌++◌, Memᴰ}
use Rattle.std.specs.Int.Signed.{lt_z}
use Rattle.model.specs.Figures.{Bound}
use Rattle.std.specs.Prelude.{None as never, Some as number}

-- h is the first of the best of l: it is better than all before it, and none after it is better
pub record First {A : Type 0} (better : A → A → Bool) (h : A) (l : List A) : Type 0 where
  pub before : List A
  pub after : List A
  pub parts : l ≡ before ++ (h ∷ after)
  pub worse : (x : A) → Memᴰ x before → T (better h x)
  pub no_better : (x : A) → Memᴰ x after → T (not (better x h))

-- whether the first bound is above the second, never being above every number
abbrev pub higher : Bound → Bound → Bool
higher never never = false
higher never (number y) = true
higher (number x) never = false
higher (number x) (number y) = lt_z y x

-- the first of the least, the first of the highest
abbrev pub FirstLeast : {A : Type 0} → (A → ℕ) → A → List A → Type 0
FirstLeast cost = First (λ x y. ltb (cost x) (cost y))

abbrev pub FirstHighest : {A : Type 0} → (A → Bound) → A → List A → Type 0
FirstHighest bound = First (λ x y. higher (bound x) (bound y))
