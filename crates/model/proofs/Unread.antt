-- p0 is read by no cost, by none of the printed rules, and by nothing of a tree: each of these is what it is with 0 for every p0, and so the
-- same for two problems that differ in p0 alone. Of one unit this is found by computing, with an induction where a run of statuses is walked.
use mathlib.Core.Path.{◌≡◌, refl, sym, ◌∙◌, ap, ap₂, transport}
use mathlib.Core.Bool.{Bool, true, false, not, cond, ◌&&◌, ◌||◌}
use mathlib.Core.List.{List, [], ◌∷◌, map}
use mathlib.Core.Logic.Iff
use mathlib.Core.Logic.{◌⊎◌, ◌↔◌}
use Prim.Native.Nat.{ℕ, zero, suc, ◌+◌, ◌-◌, ◌≤◌, ◌<◌}
use lib.Dec.{T, eqb}
use lib.IntN.{ℤ, pos, ◌+ℤ◌, ◌-ℤ◌}
use lib.ListN.{length}
use Rattle.model.specs.declared.generator.Generator.{Generator}
use Rattle.model.specs.Instance.{Instance, Schedule, ◌at◌, sum, sum_units, Each}
use Rattle.model.specs.Ranges.{All}
use Rattle.model.specs.Rules.{on, if_on, statuses, output, capacity, permits, spent, keeps, Row, MeetsPrinted}
use Rattle.model.specs.Cost.{switch_cost, switch_costs, fuel_cost, row_cost, cost}
use Rattle.model.specs.Above.{free, Mark, Marks, rest, Above, Fork, status, count, side, AboveMost, agrees}
use Rattle.model.specs.Leaf.{unless_off, usable, summed, available, if_fixed_on, fixed_on, Crowded, words, those, none_of, outputs, runs, rows_of, is_stuck, stuck_at, any_stuck, least, revenue, value, unit_least, units_least, requirement, leaf_value}
use Rattle.model.specs.Ramps.{ramp_charge, ramp_value, ramp_least, Steps, rest_steps, ups, downs, ramp_leasts, ramp_leaf_value}
use Rattle.std.specs.Prelude.{Some as number}
use Rattle.model.specs.Figures.{lower}
use Rattle.model.specs.Tree.{Leaf, short, crowd, stuck, price, ramp, Tree, leaf, fork, Narrows, GoodFork, Multipliers, StepMultipliers, GoodLeaf, LeafHolds, leaf_bound, Limits, Holds, bound}
use Rattle.model.specs.Examples.{unit1, unit2, example}
use Rattle.model.specs.Unread.{with_p0, AlikeUnits, AlikeButMidnight}

same_type : {A B : Type 0} → A ≡ B → A ↔ B
same_type e = (transport e, transport (sym e))

-- ---- one unit, whatever its p0

module _ (k : ℕ) (g : Generator) where
  permits_unread : (b : Bool) (n : ℕ) (d : Bool) → permits (with_p0 k g) b n d ≡ permits g b n d
  permits_unread true n true = refl
  permits_unread true n false = refl
  permits_unread false n true = refl
  permits_unread false n false = refl

  switch_cost_unread : (b : Bool) (n : ℕ) (d : Bool) → switch_cost (with_p0 k g) b n d ≡ switch_cost g b n d
  switch_cost_unread true n true = refl
  switch_cost_unread true n false = refl
  switch_cost_unread false n true = refl
  switch_cost_unread false n false = refl

  keeps_unread : (b : Bool) (n : ℕ) (run : List Bool) → keeps (with_p0 k g) b n run ≡ keeps g b n run
  keeps_unread b n [] = refl
  keeps_unread b n (d ∷ run) = ap₂ ◌&&◌ (permits_unread b n d) (keeps_unread d (spent b n d) run)

  switch_costs_unread : (b : Bool) (n : ℕ) (run : List Bool) → switch_costs (with_p0 k g) b n run ≡ switch_costs g b n run
  switch_costs_unread b n [] = refl
  switch_costs_unread b n (d ∷ run) = ap₂ ◌+◌ (switch_cost_unread b n d) (switch_costs_unread d (spent b n d) run)

  row_cost_unread : (n : ℕ) (r : List ℕ) → row_cost n (with_p0 k g) r ≡ row_cost n g r
  unfolding row_cost
  row_cost_unread n r = ap (λ (x : ℕ). sum n (λ t. fuel_cost g (r at t)) + x) (switch_costs_unread g.on g.since (statuses r))

  is_stuck_unread : (n : ℕ) (m : ℕ → Mark) → is_stuck n (with_p0 k g) m ≡ is_stuck n g m
  unfolding is_stuck
  is_stuck_unread n m i = none_of (λ run. keeps_unread g.on g.since run i && agrees m run) (runs n)

  rows_unread : (n : ℕ) (m : ℕ → Mark) → rows_of n (with_p0 k g) m ≡ rows_of n g m
  unfolding rows_of
  rows_unread n m i = those (λ r. keeps_unread g.on g.since (statuses r) i && agrees m (statuses r)) (words (outputs g) n)

  unit_least_unread : (n : ℕ) (q s : ℕ → ℕ) (m : ℕ → Mark) → unit_least n q s (with_p0 k g) m ≡ unit_least n q s g m
  unfolding unit_least value revenue
  unit_least_unread n q s m i = least (map (λ r. pos (row_cost_unread n r i) -ℤ pos (revenue n q s g r)) (rows_unread n m i))

  ramp_least_unread : (n : ℕ) (q s x y : ℕ → ℕ) (m : ℕ → Mark) → ramp_least n q s x y (with_p0 k g) m ≡ ramp_least n q s x y g m
  unfolding ramp_least ramp_value ramp_charge value revenue
  ramp_least_unread n q s x y m i =
      least (map (λ r. (pos (row_cost_unread n r i) -ℤ pos (revenue n q s g r)) +ℤ ramp_charge n x y g r) (rows_unread n m i))

-- p0 does not move a row's rules
row_moved : (n : ℕ) (r : List ℕ) (k k' : ℕ) (g : Generator) → Row n (with_p0 k g) r → Row n (with_p0 k' g) r
row_moved n r k k' g R = record {
  long = R.long;
  limits = R.limits;
  updown = rw (keeps_unread k g g.on g.since (statuses r) ∙ sym (keeps_unread k' g g.on g.since (statuses r))) at R.updown;
  ramps = λ t l b d. let x = R.ramps t l b d in record { rise = x.rise; fall = x.fall };
}

row_unread : (n : ℕ) (r : List ℕ) (g : Generator) → Row n (with_p0 0 g) r ↔ Row n g r
row_unread n r g = (row_moved n r 0 g.p0 g, row_moved n r g.p0 0 g)

-- ---- all units, with 0 for every p0

sum_without : (f : Generator → List ℕ → ℕ) → ((g : Generator) (r : List ℕ) → f (with_p0 0 g) r ≡ f g r) → (gs : List Generator) (s : Schedule)
    → sum_units f (map (with_p0 0) gs) s ≡ sum_units f gs s
sum_without f h [] s = refl
sum_without f h (g ∷ gs) [] = refl
sum_without f h (g ∷ gs) (r ∷ s) = ap₂ ◌+◌ (h g r) (sum_without f h gs s)

each_without : (R : Generator → List ℕ → Type 0) → ((g : Generator) (r : List ℕ) → R (with_p0 0 g) r ↔ R g r) → (gs : List Generator) (s : Schedule)
    → Each R (map (with_p0 0) gs) s ↔ Each R gs s
each_without R h [] [] = Iff.rfl
each_without R h [] (r ∷ s) = Iff.rfl
each_without R h (g ∷ gs) [] = Iff.rfl
each_without R h (g ∷ gs) (r ∷ s) =
    let rest = each_without R h gs s in
    (λ e. ((h g r).0 e.0, rest.0 e.1), λ e. ((h g r).1 e.0, rest.1 e.1))

pub count_without : (gs : List Generator) → length (map (with_p0 0) gs) ≡ length gs
count_without [] = refl
count_without (g ∷ gs) = ap suc (count_without gs)

pub usable_without : (gs : List Generator) (m : Marks) (t : ℕ) → usable (map (with_p0 0) gs) m t ≡ usable gs m t
unfolding usable
usable_without [] m t = refl
usable_without (g ∷ gs) m t = ap (unless_off (m 0 t) g.pU) (usable_without gs (rest m) t)

pub fixed_on_without : (gs : List Generator) (m : Marks) (t : ℕ) → fixed_on (map (with_p0 0) gs) m t ≡ fixed_on gs m t
unfolding fixed_on
fixed_on_without [] m t = refl
fixed_on_without (g ∷ gs) m t = ap (λ (x : ℕ). if_fixed_on (m 0 t) + x) (fixed_on_without gs (rest m) t)

pub stuck_at_without : (n : ℕ) (gs : List Generator) (m : Marks) (U : ℕ) → stuck_at n (map (with_p0 0) gs) m U ≡ stuck_at n gs m U
stuck_at_without n [] m U = refl
stuck_at_without n (g ∷ gs) m zero = is_stuck_unread 0 g n (m 0)
stuck_at_without n (g ∷ gs) m (suc U) = stuck_at_without n gs (rest m) U

pub any_stuck_without : (n : ℕ) (gs : List Generator) (m : Marks) → any_stuck n (map (with_p0 0) gs) m ≡ any_stuck n gs m
any_stuck_without n [] m = refl
any_stuck_without n (g ∷ gs) m = ap₂ ◌||◌ (is_stuck_unread 0 g n (m 0)) (any_stuck_without n gs (rest m))

units_least_without : (n : ℕ) (q s : ℕ → ℕ) (gs : List Generator) (m : Marks) → units_least n q s (map (with_p0 0) gs) m ≡ units_least n q s gs m
unfolding units_least
units_least_without n q s [] m = refl
units_least_without n q s (g ∷ gs) m = ap₂ ◌+ℤ◌ (unit_least_unread 0 g n q s (m 0)) (units_least_without n q s gs (rest m))

ramp_leasts_without : (n : ℕ) (q s : ℕ → ℕ) (x y : Steps) (gs : List Generator) (m : Marks) → ramp_leasts n q s x y (map (with_p0 0) gs) m ≡ ramp_leasts n q s x y gs m
unfolding ramp_leasts
ramp_leasts_without n q s x y [] m = refl
ramp_leasts_without n q s x y (g ∷ gs) m =
    ap₂ ◌+ℤ◌ (ramp_least_unread 0 g n q s (x 0) (y 0) (m 0)) (ramp_leasts_without n q s (rest_steps x) (rest_steps y) gs (rest m))

-- ---- a problem, with 0 for every p0

abbrev pub without_p0 : Instance → Instance
without_p0 P = record { periods = P.periods; demand = P.demand; spare = P.spare; units = map (with_p0 0) P.units }

module _ (P : Instance) where
  cost_without : (s : Schedule) → cost (without_p0 P) s ≡ cost P s
  unfolding cost
  cost_without s = sum_without (row_cost P.periods) (λ g r. row_cost_unread 0 g P.periods r) P.units s

  leaf_value_without : (m : Marks) (q s : ℕ → ℕ) → leaf_value (without_p0 P) m q s ≡ leaf_value P m q s
  unfolding leaf_value requirement
  leaf_value_without m q s = ap (λ (x : ℤ). x +ℤ pos (requirement P q s)) (units_least_without P.periods q s P.units m)

  ramp_value_without : (m : Marks) (q s : ℕ → ℕ) (x y : Steps) → ramp_leaf_value (without_p0 P) m q s x y ≡ ramp_leaf_value P m q s x y
  unfolding ramp_leaf_value requirement
  ramp_value_without m q s x y = ap (λ (z : ℤ). z +ℤ pos (requirement P q s)) (ramp_leasts_without P.periods q s x y P.units m)

  pub leaf_bound_without : (A : Above) (l : Leaf) → leaf_bound (without_p0 P) A l ≡ leaf_bound P A l
  unfolding leaf_bound
  leaf_bound_without A (short t) = refl
  leaf_bound_without A (crowd t) = refl
  leaf_bound_without A (stuck U) = refl
  leaf_bound_without A (price q s) = ap number (leaf_value_without A.marks (λ t. q at t) (λ t. s at t))
  leaf_bound_without A (ramp q s l) = ap number (ramp_value_without A.marks (λ t. q at t) (λ t. s at t) (ups l) (downs l))

  bound_without : (A : Above) (t : Tree) → bound (without_p0 P) A t ≡ bound P A t
  unfolding bound
  bound_without A (leaf l) = leaf_bound_without A l
  bound_without A (fork f x y) = ap₂ lower (bound_without (side f false A) x) (bound_without (side f true A) y)

  good_fork_without : (A : Above) (f : Fork) → GoodFork (without_p0 P) A f ≡ GoodFork P A f
  good_fork_without A (status U t) = λ i. (U < count_without P.units i) × (t < P.periods) × (A.marks U t ≡ free)
  good_fork_without A (count t K) = λ i. (t < P.periods) × (K ≤ count_without P.units i - 1) × Narrows A t K

  good_leaf_without : (l : Leaf) → GoodLeaf (without_p0 P) l ≡ GoodLeaf P l
  unfolding GoodLeaf
  good_leaf_without (short t) = refl
  good_leaf_without (crowd t) = refl
  good_leaf_without (stuck U) = λ i. U < count_without P.units i
  good_leaf_without (price q s) = refl
  good_leaf_without (ramp q s l) =
      λ i. Multipliers P q × Multipliers P s × ((length l ≡ cond (eqb P.periods 1) 0 (count_without P.units i)) × All (λ x. StepMultipliers P x.up × StepMultipliers P x.down) l)

  limits_without : (A : Above) (d : ℕ) (t : Tree) → Limits (without_p0 P) A d t ≡ Limits P A d t
  unfolding Limits
  limits_without A d (leaf l) = good_leaf_without l
  limits_without A d (fork f x y) =
      λ i. good_fork_without A f i × (d ≤ 63) × limits_without (side f false A) (suc d) x i × limits_without (side f true A) (suc d) y i

  pub available_without : (A : Above) (t : ℕ) → available (without_p0 P) A t ≡ available P A t
  unfolding available
  available_without A t = ap (summed (A.most t)) (usable_without P.units A.marks t)

  crowded_without : (A : Above) (t : ℕ) → Crowded (without_p0 P) A t ≡ Crowded P A t
  crowded_without A t =
      λ i. AboveMost (fixed_on_without P.units A.marks t i) (A.most t) ⊎ (length (usable_without P.units A.marks t i) < A.least t)

  leaf_holds_without : (A : Above) (l : Leaf) → LeafHolds (without_p0 P) A l ≡ LeafHolds P A l
  unfolding LeafHolds
  leaf_holds_without A (short t) = λ i. (t < P.periods) × (available_without A t i < P.demand at t + P.spare at t)
  leaf_holds_without A (crowd t) = λ i. (t < P.periods) × crowded_without A t i
  leaf_holds_without A (stuck U) = λ i. T (stuck_at_without P.periods P.units A.marks U i)
  leaf_holds_without A (price q s) = λ i. T (not (any_stuck_without P.periods P.units A.marks i))
  leaf_holds_without A (ramp q s l) = λ i. T (not (any_stuck_without P.periods P.units A.marks i))

  holds_without : (A : Above) (t : Tree) → Holds (without_p0 P) A t ≡ Holds P A t
  unfolding Holds
  holds_without A (leaf l) = leaf_holds_without A l
  holds_without A (fork f x y) = λ i. holds_without (side f false A) x i × holds_without (side f true A) y i

  output_without : (s : Schedule) (t : ℕ) → output (without_p0 P) s t ≡ output P s t
  unfolding output
  output_without s t = sum_without (λ g r. r at t) (λ g r. refl) P.units s

  capacity_without : (s : Schedule) (t : ℕ) → capacity (without_p0 P) s t ≡ capacity P s t
  unfolding capacity
  capacity_without s t = sum_without (λ g r. if_on (on (r at t)) g.pU) (λ g r. refl) P.units s

  printed_without : (s : Schedule) → MeetsPrinted (without_p0 P) s ↔ MeetsPrinted P s
  printed_without s = (
    λ M. record {
      rows = rows.0 M.rows;
      meets_demand = λ t l. rw (output_without s t) at (M.meets_demand t l);
      meets_spare = λ t l. rw (capacity_without s t) at (M.meets_spare t l);
    },
    λ M. record {
      rows = rows.1 M.rows;
      meets_demand = λ t l. rw (output_without s t) (M.meets_demand t l);
      meets_spare = λ t l. rw (capacity_without s t) (M.meets_spare t l);
    },
  )
    where
      rows : Each (Row P.periods) (map (with_p0 0) P.units) s ↔ Each (Row P.periods) P.units s
      rows = each_without (Row P.periods) (λ g r. row_unread P.periods r g) P.units s

-- ---- two problems alike but for p0

alike_units : (gs gs' : List Generator) → AlikeUnits gs gs' → map (with_p0 0) gs ≡ map (with_p0 0) gs'
alike_units [] [] h = refl
alike_units [] (g' ∷ gs') h = absurd h
alike_units (g ∷ gs) [] h = absurd h
alike_units (g ∷ gs) (g' ∷ gs') h = ap₂ ◌∷◌ (ap (with_p0 0) (sym h.0)) (alike_units gs gs' h.1)

module _ (P P' : Instance) (alike : AlikeButMidnight P P') where
  without_same : without_p0 P ≡ without_p0 P'
  without_same =
      λ i. record { periods = alike.periods i; demand = alike.demand i; spare = alike.spare i; units = alike_units P.units P'.units alike.units i }

  -- what 0 for every p0 leaves as it is, is the same of both
  pub both {ℓ} : {X : Type ℓ} (f : Instance → X) → ((Q : Instance) → f (without_p0 Q) ≡ f Q) → f P ≡ f P'
  both f h = sym (h P) ∙ ap f without_same ∙ h P'

  -- starts and stops with it
  pub cost_unread : (s : Schedule) → cost P s ≡ cost P' s
  cost_unread s = both (λ Q. cost Q s) (λ Q. cost_without Q s)

  pub bound_unread : (A : Above) (t : Tree) → bound P A t ≡ bound P' A t
  bound_unread A t = both (λ Q. bound Q A t) (λ Q. bound_without Q A t)

  pub limits_unread : (A : Above) (d : ℕ) (t : Tree) → Limits P A d t ↔ Limits P' A d t
  limits_unread A d t = same_type (both (λ Q. Limits Q A d t) (λ Q. limits_without Q A d t))

  pub holds_unread : (A : Above) (t : Tree) → Holds P A t ↔ Holds P' A t
  holds_unread A t = same_type (both (λ Q. Holds Q A t) (λ Q. holds_without Q A t))

  pub printed_unread : (s : Schedule) → MeetsPrinted P s ↔ MeetsPrinted P' s
  printed_unread s = Iff.trans (Iff.symm (printed_without P s)) (Iff.trans (same_type (ap (λ (Q : Instance). MeetsPrinted Q s) without_same)) (printed_without P' s))

-- the papers' example, and the same with its first unit at k at midnight
pub alike_example : (k : ℕ) → AlikeButMidnight example (record { periods = 2; demand = example.demand; spare = example.spare; units = with_p0 k unit1 ∷ (unit2 ∷ []) })
alike_example k = record { periods = refl; demand = refl; spare = refl; units = (refl, (refl, tt)) }
