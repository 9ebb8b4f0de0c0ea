-- The walk over the states that the periods so far can reach, from two lists of costs: it starts with ones, a step back keeps it
-- the table of the periods left, every value fits, and the state before period 1 is followed alone.
use mathlib.Core.Path.{◌≡◌, sym, ◌∙◌, ap}
use mathlib.Core.Bool.{Bool, true, false, not, cond}
use mathlib.Core.List.{List, ◌++◌}
use Prim.Native.Nat.{ℕ, suc, ◌+◌, ◌-◌, ◌≤◌, ◌<◌, min}
use native.Mathlib.Nat.{zero-add}
use native.Mathlib.Numerals.{add-one}
use native.Mathlib.Omega.{arith}
use borrow.Author.Tests.{eq-eqb, ne_eqb, le-leb, lt-leb}
use lib.Dec.{T, leb, leb→le, nleb→lt}
use lib.ListN.{length, take, drop, get_or-eq_default, get_or-append}
use lib.Seq.{length-take-le, length_front, get_or-take}
use Rattle.model.specs.declared.generator.Generator.{Generator}
use Rattle.model.specs.Instance.{◌at◌}
use Rattle.model.specs.Ranges.{GoodUnit}
use Rattle.model.specs.Above.{Mark, allows}
use Rattle.model.specs.Walk.{lesser, Values, back, walk, cap, Settled}
use Rattle.model.specs.Table.{kept, leave, enter, chain_at, values}
use Rattle.model.proofs.Coded.{lesser_comm, lesser_none}
use Rattle.model.proofs.LeafSizes.{all_at}
use Rattle.model.proofs.WalkSizes.{walk_most, switch_cost_fits}
use Rattle.model.proofs.WalkPeriods.{values_end, values_back, values_start, values_settled}
use Rattle.walk.specs.Marks.{marks_of}
use Rattle.walk.specs.Limits.{GoodCosts, GoodValue}
use Rattle.walk.specs.GoingBack.{by_status, costs_of, Back, Known}

-- ---- one period back, by the case of the state

module _ (g : Generator) (m : Mark) (w : Bool → ℕ) (X : Values) where
  pub on_held : (k : ℕ) → k < g.TU → back g m w X true k ≡ kept (allows m true) (w true) (X true (suc k))
  unfolding back lesser
  on_held k l = rw (lt-leb g.TU k l, zero-add (w true))

  pub on_free : (k : ℕ) → g.TU ≤ k
      → back g m w X true k ≡ lesser (kept (allows m false) (g.Dc + w false) (X false 1)) (kept (allows m true) (w true) (X true (suc k)))
  unfolding back
  on_free k l = rw (le-leb g.TU k l, zero-add (w true))

  pub off_held : (k : ℕ) → k < g.TD → back g m w X false k ≡ kept (allows m false) (w false) (X false (suc k))
  unfolding back
  off_held k l = rw (lt-leb g.TD k l, zero-add (w false), lesser_none)

  pub off_hot : (k : ℕ) → g.TD ≤ k → k ≤ g.TD + g.Tcold
      → back g m w X false k ≡ lesser (kept (allows m true) (g.Hsc + w true) (X true 1)) (kept (allows m false) (w false) (X false (suc k)))
  unfolding back
  off_hot k l h = rw (le-leb g.TD k l, le-leb k (g.TD + g.Tcold) h, zero-add (w false)) (lesser_comm _ _)

  pub off_cold : (k : ℕ) → g.TD + g.Tcold < k
      → back g m w X false k ≡ lesser (kept (allows m true) (g.Csc + w true) (X true 1)) (kept (allows m false) (w false) (X false (suc k)))
  unfolding back
  off_cold k h =
      let l : g.TD ≤ k = omega arith in
      rw (le-leb g.TD k l, lt-leb k (g.TD + g.Tcold) h, zero-add (w false)) (lesser_comm _ _)

-- ---- the states that t periods reach

module _ (g : Generator) (m : Mark) (on off : ℕ) (X : Values) (settled : Settled g X) (r : ℕ) (ons offs ons' offs' : List ℕ)
    (ons_long : length ons ≡ min (suc r) g.TU) (offs_long : length offs ≡ min (suc r) (cap g false)) (TU_pos : 0 < g.TU)
    (A : Known X true (min (suc r) g.TU) ons) (B : Known X false (min (suc r) (cap g false)) offs) (C : Back g m on off ons offs ons' offs') where
  abbrev w : Bool → ℕ
  w = by_status on off

  -- after one period less they are those of one period back
  pub on_known : Known (back g m w X) true (min r g.TU) ons'
  unfolding lesser
  on_known k l = C.of_on.at k (omega arith) ∙ go (leb (length ons) (k + 1)) (λ t. leb→le (length ons) (k + 1) t) (λ t. nleb→lt (length ons) (k + 1) t)
    where
      go : (c : Bool) → (T c → length ons ≤ k + 1) → (T (not c) → k + 1 < length ons)
          → chain_at ons g.TU (leave g m off offs) (leave g m off offs) (allows m true) on k ≡ back g m w X true (suc k)
      go true f h =
          let e : k + 1 ≡ length ons = omega (arith, f tt) in
          let full : g.TU ≤ suc k = omega arith in
          let j : min (k + 1) (length ons - 1) ≡ k = omega arith in
          rw (eq-eqb (k + 1) (length ons) e, j, on_free g m w X (suc k) full, A k (omega arith), B 0 (omega arith), settled true (suc k) (suc (suc k)) full (omega arith))
      go false f h =
          let i : k + 1 < length ons = h tt in
          let j : min (k + 1) (length ons - 1) ≡ suc k = omega arith in
          rw (
            ne_eqb (k + 1) (length ons) (λ e. omega arith),
            lt-leb g.TU (k + 1) (omega arith),
            j,
            on_held g m w X (suc k) (omega arith),
            A (suc k) (omega arith),
          )

  pub off_known : Known (back g m w X) false (min r (cap g false)) offs'
  unfolding lesser
  off_known k l = C.of_off.at k (omega arith) ∙ go (leb (length offs) (k + 1)) (λ t. leb→le (length offs) (k + 1) t) (λ t. nleb→lt (length offs) (k + 1) t)
    where
      hot : (c : Bool) → (T c → g.TD ≤ suc k) → (T (not c) → suc k < g.TD) → k + 1 < length offs
          → lesser (cond c (enter g.Hsc m on ons) 0) (kept (allows m false) off (X false (suc (suc k)))) ≡ back g m w X false (suc k)
      hot true f h i = rw (off_hot g m w X (suc k) (f tt) (omega arith), A 0 (omega arith))
      hot false f h i = rw (off_held g m w X (suc k) (h tt))

      go : (c : Bool) → (T c → length offs ≤ k + 1) → (T (not c) → k + 1 < length offs)
          → chain_at offs g.TD (enter g.Hsc m on ons) (enter g.Csc m on ons) (allows m false) off k ≡ back g m w X false (suc k)
      go true f h =
          let e : k + 1 ≡ length offs = omega (arith, f tt) in
          let full : cap g false ≤ suc k = omega arith in
          let j : min (k + 1) (length offs - 1) ≡ k = omega arith in
          rw (eq-eqb (k + 1) (length offs) e, j, off_cold g m w X (suc k) (omega arith), A 0 (omega arith), B k (omega arith), settled false (suc k) (suc (suc k)) full (omega arith))
      go false f h =
          let i : k + 1 < length offs = h tt in
          let j : min (k + 1) (length offs - 1) ≡ suc k = omega arith in
          rw (ne_eqb (k + 1) (length offs) (λ e. omega arith), j, B (suc k) (omega arith), add-one k)
          (hot (leb g.TD (suc k)) (λ t. leb→le g.TD (suc k) t) (λ t. nleb→lt g.TD (suc k) t) i)

-- the lists are as long as before where their fronts went one period back
pub fronts_long : (g : Generator) (m : Mark) (on off : ℕ) (ons offs new new' : List ℕ) (a b : ℕ) → Back g m on off (take a ons) (take b offs) new new'
    → (length (new ++ drop a ons) ≡ length ons) × (length (new' ++ drop b offs) ≡ length offs)
fronts_long g m on off ons offs new new' a b B = (length_front ons new a B.of_on.same, length_front offs new' b B.of_off.same)

-- ---- the walk from the last period to the first

module _ (g : Generator) (good : GoodUnit g) (n : ℕ) (on off fixed : List ℕ) (C : GoodCosts n on off) where
  abbrev X : ℕ → Values
  X = values n g (marks_of fixed) (costs_of on off)

  cost_fits : (t : ℕ) (d : Bool) → costs_of on off t d ≤ 1_000_000_000_000_000
  cost_fits t true = (all_at 1_000_000_000_000_000 on C.on_in t).1
  cost_fits t false = (all_at 1_000_000_000_000_000 off C.off_in t).1

  -- every value leaves room for a sum
  pub values_good : (t : ℕ) (b : Bool) (k : ℕ) → GoodValue (X t b k)
  unfolding values
  values_good t b k =
      let l : n ≤ 48 = C.periods_in.1 in
      omega (
        arith,
        walk_most 1_000_000_000 1_000_000_000_000_000 g (switch_cost_fits g good) (n - t) (λ i. marks_of fixed (t + i)) (λ i. costs_of on off (t + i))
            (λ i l d. cost_fits (t + i) d) b k,
      )

  -- and so does what a list holds that begins with them, up to there, and what is read past its end
  pub known_good : (t : ℕ) (b : Bool) (r : ℕ) (l : List ℕ) → length l ≡ r → Known (X t) b r l → (k : ℕ) → GoodValue (l at k)
  known_good t b r l e A k = go (leb r k) (λ h. leb→le r k h) (λ h. nleb→lt r k h)
    where
      go : (c : Bool) → (T c → r ≤ k) → (T (not c) → k < r) → GoodValue (l at k)
      go true f h = let i : length l ≤ k = omega (arith, f tt) in rw (get_or-eq_default l 0 i) (omega arith)
      go false f h = rw (A k (h tt)) (values_good t b (suc k))

  -- ones are the values after the last period
  pub ones_known : (b : Bool) (r : ℕ) (l : List ℕ) → ((k : ℕ) → k < r → l at k ≡ 1) → Known (X n) b r l
  ones_known b r l h k i = h k i ∙ sym (values_end n g (marks_of fixed) (costs_of on off) b (suc k))

  -- one period back
  pub known_back : (t : ℕ) → 0 < t → t ≤ n → (ons offs ons' offs' : List ℕ) → (length ons ≡ min t g.TU) × (length offs ≡ min t (cap g false))
      → Known (X t) true (min t g.TU) ons × Known (X t) false (min t (cap g false)) offs
      → Back g (marks_of fixed (t - 1)) (on at (t - 1)) (off at (t - 1)) ons offs ons' offs'
      → Known (X (t - 1)) true (min (t - 1) g.TU) ons' × Known (X (t - 1)) false (min (t - 1) (cap g false)) offs'
  known_back t i l ons offs ons' offs' e A B =
      let s : t ≡ suc (t - 1) = omega arith in
      let e' : (length ons ≡ min (suc (t - 1)) g.TU) × (length offs ≡ min (suc (t - 1)) (cap g false)) = (omega arith, omega arith) in
      let A' : Known (X (suc (t - 1))) true (min (suc (t - 1)) g.TU) ons × Known (X (suc (t - 1))) false (min (suc (t - 1)) (cap g false)) offs = rw s at A in
      let m = marks_of fixed (t - 1) in
      let S = values_settled n g (marks_of fixed) (costs_of on off) (suc (t - 1)) in
      let TU_pos : 0 < g.TU = good.in_range.TU_in.0 in
      let earlier = values_back n g (marks_of fixed) (costs_of on off) (t - 1) (omega arith) in
      let at_on = on_known g m (on at (t - 1)) (off at (t - 1)) (X (suc (t - 1))) S (t - 1) ons offs ons' offs' e'.0 e'.1 TU_pos A'.0 A'.1 B in
      let at_off = off_known g m (on at (t - 1)) (off at (t - 1)) (X (suc (t - 1))) S (t - 1) ons offs ons' offs' e'.0 e'.1 TU_pos A'.0 A'.1 B in
      (λ k h. at_on k h ∙ sym (earlier true (suc k)), λ k h. at_off k h ∙ sym (earlier false (suc k)))

  -- where the lists are the fronts of longer ones
  pub known_turn : (t : ℕ) → 0 < t → t ≤ n → (ons offs new new' : List ℕ) (a b : ℕ) → (length ons ≡ g.TU) × (length offs ≡ cap g false)
      → (a ≡ min t g.TU) × (b ≡ min t (cap g false))
      → Known (X t) true (min t g.TU) ons × Known (X t) false (min t (cap g false)) offs
      → Back g (marks_of fixed (t - 1)) (on at (t - 1)) (off at (t - 1)) (take a ons) (take b offs) new new'
      → Known (X (t - 1)) true (min (t - 1) g.TU) (new ++ drop a ons) × Known (X (t - 1)) false (min (t - 1) (cap g false)) (new' ++ drop b offs)
  known_turn t i l ons offs new new' a b e f A B =
      let P : length (take a ons) ≡ min t g.TU = length-take-le a ons (omega arith) ∙ f.0 in
      let Q : length (take b offs) ≡ min t (cap g false) = length-take-le b offs (omega arith) ∙ f.1 in
      let D = known_back t i l (take a ons) (take b offs) new new' (P, Q)
      (λ k h. get_or-take a ons k 0 (omega arith) ∙ A.0 k h, λ k h. get_or-take b offs k 0 (omega arith) ∙ A.1 k h) B in (
        λ k h. get_or-append new (drop a ons) 0 k (omega (arith, B.of_on.same)) ∙ D.0 k h,
        λ k h. get_or-append new' (drop b offs) 0 k (omega (arith, B.of_off.same)) ∙ D.1 k h,
      )

  -- the front of a list is good
  pub front_good : (t : ℕ) (b : Bool) (r a : ℕ) (l : List ℕ) → a ≡ r → a ≤ length l → Known (X t) b r l → (k : ℕ) → GoodValue (take a l at k)
  front_good t b r a l e h A =
      known_good t b r (take a l) (length-take-le a l h ∙ e) (λ k i. get_or-take a l k 0 (omega arith) ∙ A k i)

  -- the state that no change has led to: one period back, and before the first
  pub own_turn : (t : ℕ) → 0 < t → t ≤ n → (b : Bool) (k r : ℕ) → r ≡ back g (marks_of fixed (t - 1)) (costs_of on off (t - 1)) (X t) b k → r ≡ X (t - 1) b k
  own_turn t i l b k r e =
      let s : suc (t - 1) ≡ t = omega arith in
      e
      ∙ ap (λ (u : ℕ). back g (marks_of fixed (t - 1)) (costs_of on off (t - 1)) (X u) b k) (sym s)
      ∙ sym (values_back n g (marks_of fixed) (costs_of on off) (t - 1) (omega arith) b k)

  pub own_start : (t : ℕ) → t ≡ 0 → (b : Bool) (k r : ℕ) → r ≡ X t b (k + t) → r ≡ walk n g (marks_of fixed) (costs_of on off) b k
  own_start t z b k r e =
      let s : k + 0 ≡ k = omega arith in
      e ∙ ap (λ (u : ℕ). X u b (k + u)) z ∙ ap (λ (u : ℕ). X 0 b u) s ∙ values_start n g (marks_of fixed) (costs_of on off) b k
