-- Document 02, [6]: what ramp leaves are for. A tree without one reads neither DR nor UR: it gives what it gives where every unit may rise and fall by
-- pU, and so nothing above the cost of a schedule that breaks ramps alone.
use mathlib.Core.Path.{◌≡◌, refl, sym, ap, ap₂, subst, transport}
use mathlib.Core.Bool.{Bool, true, false, not, ◌&&◌, ◌||◌}
use mathlib.Core.List.{List, [], ◌∷◌, map}
use mathlib.Core.Logic.{◌⊎◌}
use Prim.Native.Nat.{ℕ, zero, suc, ◌+◌, ◌<◌}
use lib.Dec.{T}
use lib.IntN.{ℤ, pos, ◌+ℤ◌, ◌-ℤ◌}
use lib.ListN.{length}
use lib.Signed.{◌≤ℤ◌}
use Rattle.model.specs.declared.generator.Generator.{Generator}
use Rattle.model.specs.Instance.{Instance, Schedule, ◌at◌, sum, sum_units}
use Rattle.model.specs.Rules.{statuses, permits, spent, keeps, MeetsPrinted}
use Rattle.model.specs.Cost.{switch_cost, switch_costs, fuel_cost, row_cost, cost}
use Rattle.model.specs.Above.{Mark, Marks, rest, Above, root, side, AboveMost, agrees}
use Rattle.model.specs.Leaf.{unless_off, usable, summed, available, if_fixed_on, fixed_on, Crowded, words, those, none_of, outputs, runs, rows_of, is_stuck, stuck_at, any_stuck, least, revenue, value, unit_least, units_least, requirement, leaf_value}
use Rattle.model.specs.Figures.{Bound}
use Rattle.std.specs.Prelude.{Some as number}
use Rattle.model.specs.Figures.{lower}
use Rattle.model.specs.Tree.{Leaf, short, crowd, stuck, price, ramp, Tree, leaf, fork, LeafHolds, leaf_bound, Holds, bound}
use Rattle.model.specs.Agreement.{Agrees}
use Rattle.ramps.specs.Loosened.{loose, loosened, PlainLeaf, Plain}
use Rattle.model.proofs.Duality.{leaf_below}
use Rattle.model.proofs.Soundness.{Below, sound}

-- ---- one unit

module _ (g : Generator) where
  permits_loose : (b : Bool) (n : ℕ) (d : Bool) → permits (loose g) b n d ≡ permits g b n d
  permits_loose true n true = refl
  permits_loose true n false = refl
  permits_loose false n true = refl
  permits_loose false n false = refl

  switch_cost_loose : (b : Bool) (n : ℕ) (d : Bool) → switch_cost (loose g) b n d ≡ switch_cost g b n d
  switch_cost_loose true n true = refl
  switch_cost_loose true n false = refl
  switch_cost_loose false n true = refl
  switch_cost_loose false n false = refl

  keeps_loose : (b : Bool) (n : ℕ) (run : List Bool) → keeps (loose g) b n run ≡ keeps g b n run
  keeps_loose b n [] = refl
  keeps_loose b n (d ∷ run) = ap₂ ◌&&◌ (permits_loose b n d) (keeps_loose d (spent b n d) run)

  switch_costs_loose : (b : Bool) (n : ℕ) (run : List Bool) → switch_costs (loose g) b n run ≡ switch_costs g b n run
  switch_costs_loose b n [] = refl
  switch_costs_loose b n (d ∷ run) = ap₂ ◌+◌ (switch_cost_loose b n d) (switch_costs_loose d (spent b n d) run)

  row_cost_loose : (n : ℕ) (r : List ℕ) → row_cost n (loose g) r ≡ row_cost n g r
  unfolding row_cost
  row_cost_loose n r = ap (λ (x : ℕ). sum n (λ t. fuel_cost g (r at t)) + x) (switch_costs_loose g.on g.since (statuses r))

  is_stuck_loose : (n : ℕ) (m : ℕ → Mark) → is_stuck n (loose g) m ≡ is_stuck n g m
  unfolding is_stuck
  is_stuck_loose n m i = none_of (λ run. keeps_loose g.on g.since run i && agrees m run) (runs n)

  rows_loose : (n : ℕ) (m : ℕ → Mark) → rows_of n (loose g) m ≡ rows_of n g m
  unfolding rows_of
  rows_loose n m i = those (λ r. keeps_loose g.on g.since (statuses r) i && agrees m (statuses r)) (words (outputs g) n)

  unit_least_loose : (n : ℕ) (q s : ℕ → ℕ) (m : ℕ → Mark) → unit_least n q s (loose g) m ≡ unit_least n q s g m
  unfolding unit_least value revenue
  unit_least_loose n q s m i = least (map (λ r. pos (row_cost_loose n r i) -ℤ pos (revenue n q s g r)) (rows_loose n m i))

-- ---- all units

costs_loose : (n : ℕ) (gs : List Generator) (s : Schedule) → sum_units (row_cost n) (map loose gs) s ≡ sum_units (row_cost n) gs s
costs_loose n [] s = refl
costs_loose n (g ∷ gs) [] = refl
costs_loose n (g ∷ gs) (r ∷ s) = ap₂ ◌+◌ (row_cost_loose g n r) (costs_loose n gs s)

usable_loose : (gs : List Generator) (m : Marks) (t : ℕ) → usable (map loose gs) m t ≡ usable gs m t
unfolding usable
usable_loose [] m t = refl
usable_loose (g ∷ gs) m t = ap (unless_off (m 0 t) g.pU) (usable_loose gs (rest m) t)

fixed_on_loose : (gs : List Generator) (m : Marks) (t : ℕ) → fixed_on (map loose gs) m t ≡ fixed_on gs m t
unfolding fixed_on
fixed_on_loose [] m t = refl
fixed_on_loose (g ∷ gs) m t = ap (λ (x : ℕ). if_fixed_on (m 0 t) + x) (fixed_on_loose gs (rest m) t)

stuck_at_loose : (n : ℕ) (gs : List Generator) (m : Marks) (U : ℕ) → stuck_at n (map loose gs) m U ≡ stuck_at n gs m U
stuck_at_loose n [] m U = refl
stuck_at_loose n (g ∷ gs) m zero = is_stuck_loose g n (m 0)
stuck_at_loose n (g ∷ gs) m (suc U) = stuck_at_loose n gs (rest m) U

any_stuck_loose : (n : ℕ) (gs : List Generator) (m : Marks) → any_stuck n (map loose gs) m ≡ any_stuck n gs m
any_stuck_loose n [] m = refl
any_stuck_loose n (g ∷ gs) m = ap₂ ◌||◌ (is_stuck_loose g n (m 0)) (any_stuck_loose n gs (rest m))

units_least_loose : (n : ℕ) (q s : ℕ → ℕ) (gs : List Generator) (m : Marks) → units_least n q s (map loose gs) m ≡ units_least n q s gs m
unfolding units_least
units_least_loose n q s [] m = refl
units_least_loose n q s (g ∷ gs) m = ap₂ ◌+ℤ◌ (unit_least_loose g n q s (m 0)) (units_least_loose n q s gs (rest m))

-- ---- a problem

module _ (P : Instance) where
  cost_loose : (s : Schedule) → cost (loosened P) s ≡ cost P s
  unfolding cost
  cost_loose s = costs_loose P.periods P.units s

  leaf_value_loose : (m : Marks) (q s : ℕ → ℕ) → leaf_value (loosened P) m q s ≡ leaf_value P m q s
  unfolding leaf_value requirement
  leaf_value_loose m q s = ap (λ (x : ℤ). x +ℤ pos (requirement P q s)) (units_least_loose P.periods q s P.units m)

  available_loose : (A : Above) (t : ℕ) → available (loosened P) A t ≡ available P A t
  unfolding available
  available_loose A t = ap (summed (A.most t)) (usable_loose P.units A.marks t)

  crowded_loose : (A : Above) (t : ℕ) → Crowded (loosened P) A t ≡ Crowded P A t
  crowded_loose A t =
      λ i. AboveMost (fixed_on_loose P.units A.marks t i) (A.most t) ⊎ (length (usable_loose P.units A.marks t i) < A.least t)

  leaf_holds_loose : (A : Above) (l : Leaf) → LeafHolds (loosened P) A l ≡ LeafHolds P A l
  unfolding LeafHolds
  leaf_holds_loose A (short t) = λ i. (t < P.periods) × (available_loose A t i < P.demand at t + P.spare at t)
  leaf_holds_loose A (crowd t) = λ i. (t < P.periods) × crowded_loose A t i
  leaf_holds_loose A (stuck U) = λ i. T (stuck_at_loose P.periods P.units A.marks U i)
  leaf_holds_loose A (price q s) = λ i. T (not (any_stuck_loose P.periods P.units A.marks i))
  leaf_holds_loose A (ramp q s l) = λ i. T (not (any_stuck_loose P.periods P.units A.marks i))

  holds_loose : (A : Above) (t : Tree) → Holds (loosened P) A t ≡ Holds P A t
  unfolding Holds
  holds_loose A (leaf l) = leaf_holds_loose A l
  holds_loose A (fork f x y) = λ i. holds_loose (side f false A) x i × holds_loose (side f true A) y i

  leaf_bound_loose : (A : Above) (l : Leaf) → PlainLeaf l → leaf_bound (loosened P) A l ≡ leaf_bound P A l
  unfolding leaf_bound
  leaf_bound_loose A (short t) p = refl
  leaf_bound_loose A (crowd t) p = refl
  leaf_bound_loose A (stuck U) p = refl
  leaf_bound_loose A (price q s) p = ap number (leaf_value_loose A.marks (λ t. q at t) (λ t. s at t))
  leaf_bound_loose A (ramp q s l) p = absurd p

  bound_loose : (A : Above) (t : Tree) → Plain t → bound (loosened P) A t ≡ bound P A t
  unfolding bound
  bound_loose A (leaf l) p = leaf_bound_loose A l p
  bound_loose A (fork f x y) p = ap₂ lower (bound_loose (side f false A) x p.0) (bound_loose (side f true A) y p.1)

  -- ---- what the wide ramps allow is bounded by no such tree from above

  -- every price leaf is at most the cost of a schedule that agrees and meets the rules with wide ramps, whatever its multipliers
  pub price_below : (s : Schedule) → MeetsPrinted (loosened P) s → (A : Above) → Agrees A s → (q r : ℕ → ℕ)
      → leaf_value P A.marks q r ≤ℤ pos (cost P s)
  price_below s M A h q r = rw (← leaf_value_loose A.marks q r, ← cost_loose s) (leaf_below (loosened P) s M A h q r)

  -- and so is every tree without a ramp leaf
  pub plain_below : (t : Tree) → Plain t → Holds P root t → (s : Schedule) → MeetsPrinted (loosened P) s → Below (bound P root t) (cost P s)
  plain_below t p h s M =
      subst (λ (b : Bound). Below b (cost P s)) (bound_loose root t p)
      (subst (λ (c : ℕ). Below (bound (loosened P) root t) c) (cost_loose s) (sound (loosened P) t (transport (sym (holds_loose root t)) h) s M))
