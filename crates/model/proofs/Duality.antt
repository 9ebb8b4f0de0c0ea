-- A leaf's laws, by weak duality: a row that meets its rules is one of those over which the unit's least value is taken, and
-- what the units earn in a period at q and s is at least q·D + s·(D + R), since (2) and (3) hold there.
use mathlib.Core.Path.{◌≡◌, refl, ◌∙◌}
use mathlib.Core.Bool.{Bool, true, false}
use mathlib.Core.List.Memᴰ
use mathlib.Core.List.{List, [], ◌∷◌, map, Memᴰ}
use Prim.Native.Nat.{ℕ, zero, suc, ◌+◌, ◌*◌, ◌-◌, ◌≤◌}
use native.Mathlib.Nat.{mul-le-mul_left}
use native.Mathlib.Omega.{arith}
use lib.Dec.{T}
use lib.ListN.{get_or, length-map}
use lib.IntN.{ℤ, pos}
use lib.Signed.{◌≤ℤ◌}
use Rattle.model.specs.declared.generator.Generator.{Generator}
use Rattle.model.specs.Instance.{Instance, Schedule, ◌at◌, sum_units, Each}
use Rattle.model.specs.Rules.{on, if_on, statuses, Within, output, capacity, keeps, Row, MeetsPrinted}
use Rattle.model.specs.Cost.{row_cost, cost}
use Rattle.model.specs.Above.{Mark, Marks, Above, rest, allows, agrees, obeys}
use Rattle.model.specs.Leaf.{words, outputs, runs, rows_of, is_stuck, stuck_at, revenue, value, unit_least, units_least, requirement, leaf_value}
use Rattle.model.proofs.Integers.{up, down, le→nat, nat→le, +ℤ-nat, -ℤ-nat, least_le}
use Rattle.model.proofs.Tests.{T_and}
use Rattle.model.proofs.Sums.{sum_le, exchange}
use Rattle.model.proofs.Members.{mem_words, mem_those, none_of_not, mem_range}
use Rattle.model.specs.Agreement.{Follows, Agrees}

-- ---- one unit

pub agrees_row : (m : ℕ → Mark) (r : List ℕ) → ((t : ℕ) → T (allows (m t) (on (r at t)))) → T (agrees m (statuses r))
agrees_row m [] h = tt
agrees_row m (p ∷ r) h =
    T_and (allows (m 0) (on p)) (agrees (λ t. m (suc t)) (statuses r)) (h 0) (agrees_row (λ t. m (suc t)) r (λ t. h (suc t)))

-- an output that obeys (4) is one of those tried
pub mem_output : (g : Generator) (p : ℕ) → Within g p → Memᴰ p (outputs g)
mem_output g zero w = Memᴰ.head refl
mem_output g (suc p) w =
    Memᴰ.tail (mem_range g.pL (suc g.pU - g.pL) (suc p) (w tt).0 (omega (arith, (w tt).0, (w tt).1)))

pub mem_status : (b : Bool) → Memᴰ b (false ∷ (true ∷ []))
mem_status false = Memᴰ.head refl
mem_status true = Memᴰ.tail (Memᴰ.head refl)

-- a row that meets its rules and has the statuses that are fixed
module _ (n : ℕ) (g : Generator) (m : ℕ → Mark) (r : List ℕ) (row : Row n g r) (h : (t : ℕ) → T (allows (m t) (on (r at t)))) where
  pub row_obeys : T (obeys g m (statuses r))
  row_obeys = T_and (keeps g g.on g.since (statuses r)) (agrees m (statuses r)) row.updown (agrees_row m r h)

  pub mem_row : Memᴰ r (rows_of n g m)
  unfolding rows_of
  mem_row =
      mem_those (λ r. obeys g m (statuses r)) (words (outputs g) n)
      (mem_words (outputs g) 0 n r row.long (λ t l. mem_output g (r at t) (row.limits t l))) row_obeys

  pub not_stuck : T (is_stuck n g m) → ⊥
  unfolding is_stuck
  not_stuck k =
      none_of_not (obeys g m) (runs n) k
      (mem_words (false ∷ (true ∷ [])) false n (statuses r) (length-map r on ∙ row.long)
      (λ t l. mem_status (get_or (statuses r) t false)))
      row_obeys

  pub unit_below : (q s : ℕ → ℕ) → unit_least n q s g m ≤ℤ value n q s g r
  unfolding unit_least
  unit_below q s = least_le (map (value n q s g) (rows_of n g m)) (Memᴰ.map (value n q s g) mem_row)

-- ---- all units

-- the units' least values are at most their costs less their revenues
pub units_below : (n : ℕ) (q s : ℕ → ℕ) (gs : List Generator) (m : Marks) (rs : Schedule) → Each (Row n) gs rs → Follows m rs
    → up (units_least n q s gs m) + sum_units (revenue n q s) gs rs ≤ sum_units (row_cost n) gs rs + down (units_least n q s gs m)
unfolding units_least value
units_below n q s [] m [] e h = omega arith
units_below n q s [] m (r ∷ rs) e h = absurd e
units_below n q s (g ∷ gs) m [] e h = absurd e
units_below n q s (g ∷ gs) m (r ∷ rs) e h =
    let x : ℤ = unit_least n q s g (m 0) in
    let y : ℤ = units_least n q s gs (rest m) in
    omega (
      arith,
      +ℤ-nat x y,
      -ℤ-nat (row_cost n g r) (revenue n q s g r),
      le→nat x (value n q s g r) (unit_below n g (m 0) r e.0 (h 0) q s),
      units_below n q s gs (rest m) rs e.1 (λ u. h (suc u)),
    )

pub none_stuck : (n : ℕ) (gs : List Generator) (m : Marks) (rs : Schedule) (U : ℕ) → Each (Row n) gs rs → Follows m rs
    → T (stuck_at n gs m U) → ⊥
none_stuck n [] m rs U e h k = k
none_stuck n (g ∷ gs) m [] U e h k = absurd e
none_stuck n (g ∷ gs) m (r ∷ rs) zero e h k = not_stuck n g (m 0) r e.0 (h 0) k
none_stuck n (g ∷ gs) m (r ∷ rs) (suc U) e h k = none_stuck n gs (rest m) rs U e.1 (λ u. h (suc u)) k

-- ---- weak duality

-- in a period the units earn q for each unit of output and s for each unit of capacity
period_revenue : (q s t : ℕ) (gs : List Generator) (rs : Schedule)
    → sum_units (λ g r. if_on (on (r at t)) (q * r at t + s * g.pU)) gs rs
    ≡ q * sum_units (λ g r. r at t) gs rs + s * sum_units (λ g r. if_on (on (r at t)) g.pU) gs rs
period_revenue q s t [] rs = omega arith
period_revenue q s t (g ∷ gs) [] = omega arith
period_revenue q s t (g ∷ gs) (r ∷ rs) = omega (arith, one (r at t), period_revenue q s t gs rs)
  where
    one : (p : ℕ) → if_on (on p) (q * p + s * g.pU) ≡ q * p + s * if_on (on p) g.pU
    one zero = omega arith
    one (suc p) = refl

-- what the units of a schedule that meets the rules earn covers the requirement
pub duality : (P : Instance) (sch : Schedule) → MeetsPrinted P sch → (q s : ℕ → ℕ)
    → requirement P q s ≤ sum_units (revenue P.periods q s) P.units sch
unfolding requirement revenue output capacity
duality P sch M q s =
    rw (exchange P.periods (λ g r t. if_on (on (r at t)) (q t * r at t + s t * g.pU)) P.units sch)
    (sum_le P.periods _ _ (λ t l. omega (
      arith,
      period_revenue (q t) (s t) t P.units sch,
      mul-le-mul_left (q t) (M.meets_demand t l),
      mul-le-mul_left (s t) (M.meets_spare t l),
    )))

-- ---- the leaves, of a schedule that meets the rules and agrees with the statuses fixed above

module _ (P : Instance) (sch : Schedule) (M : MeetsPrinted P sch) (A : Above) (h : Agrees A sch) where
  -- a price leaf's value, whatever its multipliers, is at most the cost
  pub leaf_below : (q s : ℕ → ℕ) → leaf_value P A.marks q s ≤ℤ pos (cost P sch)
  unfolding leaf_value cost
  leaf_below q s =
      let x : ℤ = units_least P.periods q s P.units A.marks in
      nat→le (leaf_value P A.marks q s) (pos (cost P sch))
      (omega (
        arith,
        +ℤ-nat x (pos (requirement P q s)),
        duality P sch M q s,
        units_below P.periods q s P.units A.marks sch M.rows h.follows,
      ))

  -- no stuck leaf holds: the unit's statuses are a run that obeys and agrees
  pub stuck_excludes : (U : ℕ) → T (stuck_at P.periods P.units A.marks U) → ⊥
  stuck_excludes U k = none_stuck P.periods P.units A.marks sch U M.rows h.follows k
