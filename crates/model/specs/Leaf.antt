-- Document 01, Rules for a leaf, and document 02, [1]: short, crowd, stuck, and the value of a price leaf.
use Rattle.std.specs.Prelude.{Bool, true, false, not, cond, ◌&&◌, ◌||◌, List, [], ◌∷◌, ◌++◌, map, ◌⊎◌, ℕ, zero, suc, ◌+◌, ◌*◌, ◌-◌, ◌<◌, ℤ, pos, ◌+ℤ◌, ◌-ℤ◌, length}
use Rattle.std.proofs.Math.Option.{Option, none, some}
use Rattle.std.specs.Int.Signed.{le_z}
use Rattle.model.specs.declared.generator.Generator.{Generator}
use Rattle.model.specs.Instance.{Instance, ◌at◌, sum}
use Rattle.model.specs.Rules.{on, if_on, statuses}
use Rattle.model.specs.Cost.{row_cost}
use Rattle.model.specs.Above.{Mark, free, fixed, Marks, Above, rest, obeys, AboveMost}
use Rattle.model.specs.Largest.{total, largest}

-- ---- short

-- x before the others, unless it is a unit's that is fixed off
abbrev pub unless_off : Mark → ℕ → List ℕ → List ℕ
unless_off free x l = x ∷ l
unless_off (fixed true) x l = x ∷ l
unless_off (fixed false) x l = l

-- the pU of the units not fixed off in period t, by unit number
unfoldable pub usable : List Generator → Marks → ℕ → List ℕ
usable [] m t = []
usable (g ∷ gs) m t = unless_off (m 0 t) g.pU (usable gs (rest m) t)

-- all of them, or the largest K where an upper count K stands
abbrev pub summed : Option ℕ → List ℕ → ℕ
summed none l = total l
summed (some K) l = largest K l

-- what can be on in period t, with A above
unfoldable pub available : Instance → Above → ℕ → ℕ
available P A t = summed (A.most t) (usable P.units A.marks t)

-- ---- crowd

abbrev pub if_fixed_on : Mark → ℕ
if_fixed_on free = 0
if_fixed_on (fixed true) = 1
if_fixed_on (fixed false) = 0

-- how many units are fixed on in period t, and how many are not fixed off
unfoldable pub fixed_on : List Generator → Marks → ℕ → ℕ
fixed_on [] m t = 0
fixed_on (g ∷ gs) m t = if_fixed_on (m 0 t) + fixed_on gs (rest m) t

abbrev pub not_off : List Generator → Marks → ℕ → ℕ
not_off gs m t = length (usable gs m t)

-- more are fixed on than the upper count, or fewer not fixed off than the lower
abbrev pub Crowded : Instance → Above → ℕ → Type 0
Crowded P A t = AboveMost (fixed_on P.units A.marks t) (A.most t) ⊎ (not_off P.units A.marks t < A.least t)

-- ---- all runs of statuses, all rows of outputs

module _ {A B : Type 0} where
  -- the lists that f gives, one after the other
  abbrev pub gather : (A → List B) → List A → List B
  gather f [] = []
  gather f (x ∷ l) = f x ++ gather f l

module _ {A : Type 0} where
  -- every list of n members out of choices
  abbrev pub words : List A → ℕ → List (List A)
  words choices zero = [] ∷ []
  words choices (suc n) = gather (λ a. map (λ w. a ∷ w) (words choices n)) choices

  -- the members that pass a test
  abbrev pub those : (A → Bool) → List A → List A
  those p [] = []
  those p (x ∷ l) = cond (p x) (x ∷ those p l) (those p l)

  -- no member passes it
  abbrev pub none_of : (A → Bool) → List A → Bool
  none_of p [] = true
  none_of p (x ∷ l) = not (p x) && none_of p l

-- k, k + 1, ..: n numbers
abbrev pub range : ℕ → ℕ → List ℕ
range k zero = []
range k (suc n) = k ∷ range (suc k) n

-- the outputs that (4) allows
abbrev pub outputs : Generator → List ℕ
outputs g = 0 ∷ range g.pL (suc g.pU - g.pL)

-- every run of n statuses
abbrev pub runs : ℕ → List (List Bool)
runs n = words (false ∷ (true ∷ [])) n

-- every row of n outputs that obeys (4) and (5) to (10) and agrees with the marks
unfoldable pub rows_of : ℕ → Generator → (ℕ → Mark) → List (List ℕ)
rows_of n g m = those (λ r. obeys g m (statuses r)) (words (outputs g) n)

-- ---- stuck

-- no run obeys and agrees
unfoldable pub is_stuck : ℕ → Generator → (ℕ → Mark) → Bool
is_stuck n g m = none_of (obeys g m) (runs n)

abbrev pub stuck_at : ℕ → List Generator → Marks → ℕ → Bool
stuck_at n [] m U = false
stuck_at n (g ∷ gs) m zero = is_stuck n g (m 0)
stuck_at n (g ∷ gs) m (suc U) = stuck_at n gs (rest m) U

abbrev pub any_stuck : ℕ → List Generator → Marks → Bool
any_stuck n [] m = false
any_stuck n (g ∷ gs) m = is_stuck n g (m 0) || any_stuck n gs (rest m)

-- ---- a price leaf, with the price multiplier q and the reserve multiplier s of each period

abbrev pub minℤ : ℤ → ℤ → ℤ
minℤ x y = cond (le_z x y) x y

-- the least of a list; of an empty one 0 (a good unit that is not stuck has a row)
abbrev pub least : List ℤ → ℤ
least [] = pos 0
least (x ∷ []) = x
least (x ∷ (y ∷ l)) = minℤ x (least (y ∷ l))

-- q·p + s·pU for each period on
unfoldable pub revenue : ℕ → (ℕ → ℕ) → (ℕ → ℕ) → Generator → List ℕ → ℕ
revenue n q s g r = sum n (λ t. if_on (on (r at t)) (q t * r at t + s t * g.pU))

-- a row's cost less that
unfoldable pub value : ℕ → (ℕ → ℕ) → (ℕ → ℕ) → Generator → List ℕ → ℤ
value n q s g r = pos (row_cost n g r) -ℤ pos (revenue n q s g r)

-- a unit's least value: the minimum over all those rows. Ramps are left out
unfoldable pub unit_least : ℕ → (ℕ → ℕ) → (ℕ → ℕ) → Generator → (ℕ → Mark) → ℤ
unit_least n q s g m = least (map (value n q s g) (rows_of n g m))

unfoldable pub units_least : ℕ → (ℕ → ℕ) → (ℕ → ℕ) → List Generator → Marks → ℤ
units_least n q s [] m = pos 0
units_least n q s (g ∷ gs) m = unit_least n q s g (m 0) +ℤ units_least n q s gs (rest m)

-- q·D + s·(D + R) over the periods
unfoldable pub requirement : Instance → (ℕ → ℕ) → (ℕ → ℕ) → ℕ
requirement P q s = sum P.periods (λ t. q t * P.demand at t + s t * (P.demand at t + P.spare at t))

unfoldable pub leaf_value : Instance → Marks → (ℕ → ℕ) → (ℕ → ℕ) → ℤ
leaf_value P m q s = units_least P.periods q s P.units m +ℤ pos (requirement P q s)
