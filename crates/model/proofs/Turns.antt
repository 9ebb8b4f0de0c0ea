-- Document 02, [2]: what is taken is the fewest that reach, or all; and `short` is the same whether its sum is ended early or not.
use mathlib.Core.Path.{◌≡◌, refl, sym, ◌∙◌, ap, ap₂}
use mathlib.Core.Bool.{Bool, true, false, not}
use mathlib.Core.List.{List, [], ◌∷◌, ◌++◌}
use mathlib.Core.Logic.{◌↔◌}
use mathlib.Core.Option.{Option, none, some}
use Prim.Native.Nat.{ℕ, zero, suc, ◌-◌, ◌≤◌, ◌<◌, min}
use native.Mathlib.Omega.{arith}
use lib.Dec.{T, ltb, ltb→lt, nltb→le}
use lib.ListN.{length, take, length-take}
use Rattle.model.specs.declared.generator.Generator.{Generator}
use Rattle.model.specs.Instance.{Instance}
use Rattle.model.specs.Above.{Mark, Marks, Above, rest}
use Rattle.model.specs.Largest.{total, falling, largest, FallingOrder}
use Rattle.model.specs.Leaf.{unless_off, usable, summed, available, not_off}
use Rattle.model.specs.Turns.{turned, in_turn, took, Fewest}
use Rattle.model.proofs.Largest.{take_total, falling_length}
use Rattle.model.proofs.FallingOrders.{falling_is, falling_one}

-- ---- the fewest, or all

pub took_fewest : (l : List ℕ) (d k : ℕ) → k < took l d → total (take k l) < d
unfolding took
took_fewest [] d k h = absurd (omega arith)
took_fewest (x ∷ l) zero k h = absurd (omega arith)
took_fewest (x ∷ l) (suc d) zero h = omega arith
took_fewest (x ∷ l) (suc d) (suc k) h = omega (arith, took_fewest l (suc d - x) k (omega arith))

pub took_enough : (l : List ℕ) (d : ℕ) → d ≤ total l → d ≤ total (take (took l d) l)
unfolding took
took_enough [] d h = omega arith
took_enough (x ∷ l) zero h = omega arith
took_enough (x ∷ l) (suc d) h = omega (arith, took_enough l (suc d - x) (omega arith))

pub took_all : (l : List ℕ) (d : ℕ) → total l < d → took l d ≡ length l
unfolding took
took_all [] d h = refl
took_all (x ∷ l) zero h = absurd (omega arith)
took_all (x ∷ l) (suc d) h = ap suc (took_all l (suc d - x) (omega arith))

pub took_is : (l : List ℕ) (d : ℕ) → Fewest l d (took l d)
took_is l d = record { fewer = took_fewest l d; enough = took_enough l d; all = took_all l d }

-- and no other number is that
pub fewest_one : (l : List ℕ) (d m n : ℕ) → Fewest l d m → Fewest l d n → m ≡ n
fewest_one l d m n F G = go (ltb (total l) d) (ltb→lt (total l) d) (nltb→le (total l) d)
  where
    go : (b : Bool) → (T b → total l < d) → (T (not b) → d ≤ total l) → m ≡ n
    go true f g = F.all (f tt) ∙ sym (G.all (f tt))
    go false f g = same (ltb m n) (ltb→lt m n) (nltb→le m n) (ltb n m) (ltb→lt n m) (nltb→le n m)
      where
        same : (b : Bool) → (T b → m < n) → (T (not b) → n ≤ m) → (c : Bool) → (T c → n < m) → (T (not c) → m ≤ n) → m ≡ n
        same true i j c k l = absurd (omega (arith, G.fewer m (i tt), F.enough (g tt)))
        same false i j true k l = absurd (omega (arith, F.fewer n (k tt), G.enough (g tt)))
        same false i j false k l = omega (arith, j tt, l tt)

-- what stands behind numbers that reach d is not read
pub took_stops : (k l : List ℕ) (d : ℕ) → d ≤ total k → took (k ++ l) d ≡ took k d
unfolding took
took_stops [] [] d h = refl
took_stops [] (y ∷ l) zero h = refl
took_stops [] (y ∷ l) (suc d) h = absurd (omega arith)
took_stops (x ∷ k) l zero h = refl
took_stops (x ∷ k) l (suc d) h = ap suc (took_stops k l (suc d - x) (omega arith))

-- ---- `short` is the same

-- the sum over those taken is too small exactly where the sum of all is
pub stops_same : (l : List ℕ) (d : ℕ) → (total (take (took l d) l) < d) ↔ (total l < d)
stops_same l d = (λ h. go h (ltb (total l) d) (ltb→lt (total l) d) (nltb→le (total l) d), λ h. omega (arith, h, take_total (took l d) l))
  where
    go : total (take (took l d) l) < d → (b : Bool) → (T b → total l < d) → (T (not b) → d ≤ total l) → total l < d
    go h true f g = f tt
    go h false f g = absurd (omega (arith, h, took_enough l d (g tt)))

-- and the sum of all is what is available
pub in_turn_total : (P : Instance) (A : Above) (t : ℕ) → total (in_turn P A t) ≡ available P A t
unfolding in_turn available largest
in_turn_total P A t = go (A.most t)
  where
    go : (o : Option ℕ) → total (turned o (usable P.units A.marks t)) ≡ summed o (usable P.units A.marks t)
    go none = refl
    go (some K) = refl

-- ---- how many there are to take

usable_at : (gs : List Generator) (m n : Marks) (t : ℕ) → ((u : ℕ) → u < length gs → m u t ≡ n u t) → usable gs m t ≡ usable gs n t
unfolding usable
usable_at [] m n t h = refl
usable_at (g ∷ gs) m n t h = ap₂ (λ (x : Mark) (l : List ℕ). unless_off x g.pU l) (h 0 (omega arith)) (usable_at gs (rest m) (rest n) t (λ u l. h (suc u) (omega arith)))

module _ (P : Instance) (A : Above) (t : ℕ) where
  -- where none stands, all that are not fixed off, by number
  pub turns_free : A.most t ≡ none → in_turn P A t ≡ usable P.units A.marks t
  unfolding in_turn
  turns_free e = ap (λ (o : Option ℕ). turned o (usable P.units A.marks t)) e

  -- where K stands, the first K of their falling order
  pub turns_counted : (K : ℕ) → A.most t ≡ some K → (o : List ℕ) → FallingOrder (usable P.units A.marks t) o → in_turn P A t ≡ take K o
  unfolding in_turn
  turns_counted K e o F =
      ap (λ (o : Option ℕ). turned o (usable P.units A.marks t)) e ∙ ap (take K) (sym (falling_one (usable P.units A.marks t) o F))

  pub turns_many : (A.most t ≡ none → length (in_turn P A t) ≡ not_off P.units A.marks t)
      × ((K : ℕ) → A.most t ≡ some K → length (in_turn P A t) ≡ min K (not_off P.units A.marks t))
  turns_many = (
    λ e. ap length (turns_free e),
    λ K e.
        let l = usable P.units A.marks t in
        ap length (turns_counted K e (falling l) (falling_is l)) ∙ length-take K (falling l) ∙ ap (min K) (falling_length l),
  )

  -- only the period's own statuses and upper count are read
  pub turns_read : (B : Above) → ((u : ℕ) → u < length P.units → A.marks u t ≡ B.marks u t) → A.most t ≡ B.most t → in_turn P A t ≡ in_turn P B t
  unfolding in_turn
  turns_read B h e = ap₂ turned e (usable_at P.units A.marks B.marks t h)
