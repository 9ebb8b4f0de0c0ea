-- One period back over a table of states is one period back of the walk: the last entry of a status stands for all later states,
-- and every other looks at its neighbour.
use mathlib.Core.Path.{◌≡◌, sym, ◌∙◌, ap}
use mathlib.Core.Bool.{Bool, true, false, not, cond, ◌&&◌}
use mathlib.Core.List.{List}
use Prim.Native.Nat.{ℕ, suc, ◌+◌, ◌-◌, ◌≤◌, ◌<◌, min}
use native.Mathlib.Nat.{zero-add}
use native.Mathlib.Numerals.{add-one}
use native.Mathlib.Omega.{arith}
use lib.Dec.{T, leb, leb→le, nleb→lt}
use lib.ListN.{length, get_or, get_or-eq_default}
use borrow.Author.Tests.{eq-eqb, ne_eqb, le-leb, lt-leb}
use Rattle.model.specs.declared.generator.Generator.{Generator}
use Rattle.model.specs.Above.{Mark, allows}
use Rattle.model.specs.Walk.{plus, lesser, Values, back, walk, cap, Settled}
use Rattle.model.specs.Table.{values, Tabled, leave, enter, chain_at, Chained}
use Rattle.model.proofs.Coded.{lesser_comm}
use Rattle.model.proofs.Caps.{settled_cap}
use Rattle.model.proofs.WalkPeriods.{values_end, values_back, values_start, values_settled}

-- a table of values is one of any values that are the same
pub tabled_ext : (g : Generator) (X Y : Values) (b : Bool) (l : List ℕ) → ((k : ℕ) → X b k ≡ Y b k) → Tabled g X b l → Tabled g Y b l
tabled_ext g X Y b l h E = record { long = E.long; entry = λ k i. E.entry k i ∙ h (suc k) }

-- a state's value, from the table
pub tabled_at : (g : Generator) (X : Values) (b : Bool) (l : List ℕ) → Settled g X → Tabled g X b l → (k : ℕ) → 0 < k → 0 < cap g b
    → get_or l (min k (cap g b) - 1) 0 ≡ X b k
tabled_at g X b l h E k i j =
    let e : suc (min k (cap g b) - 1) ≡ min k (cap g b) = omega arith in
    E.entry (min k (cap g b) - 1) (omega arith) ∙ ap (X b) e ∙ settled_cap g X h b k

-- no entry, nor what is read past the last, is above M where no value is
pub tabled_most : (g : Generator) (X : Values) (b : Bool) (l : List ℕ) → Tabled g X b l → (M : ℕ) → ((k : ℕ) → X b k ≤ M) → (k : ℕ) → get_or l k 0 ≤ M
tabled_most g X b l E M h k = go (leb (cap g b) k) (λ t. leb→le (cap g b) k t) (λ t. nleb→lt (cap g b) k t)
  where
    go : (c : Bool) → (T c → cap g b ≤ k) → (T (not c) → k < cap g b) → get_or l k 0 ≤ M
    go true f i = let e : length l ≤ k = omega (arith, E.long, f tt) in rw (get_or-eq_default l 0 e) (omega arith)
    go false f i = rw (E.entry k (i tt)) (h (suc k))

-- the entry after k, or the last one again
neighbour : (g : Generator) (X : Values) (b : Bool) (l : List ℕ) → Settled g X → Tabled g X b l → (k : ℕ) → k < cap g b
    → get_or l (min (suc k) (cap g b - 1)) 0 ≡ X b (suc (suc k))
neighbour g X b l h E k i =
    let e : min (suc k) (cap g b - 1) ≡ min (suc (suc k)) (cap g b) - 1 = omega arith in
    rw e (tabled_at g X b l h E (suc (suc k)) (omega arith) (omega arith))

module _ (g : Generator) (m : Mark) (w : Bool → ℕ) (X : Values) (ons offs : List ℕ) (settled : Settled g X) (A : Tabled g X true ons)
    (B : Tabled g X false offs) (TU_pos : 0 < g.TU) where
  abbrev stop : ℕ
  stop = leave g m (w false) offs

  abbrev hot : ℕ
  hot = enter g.Hsc m (w true) ons

  abbrev cold : ℕ
  cold = enter g.Csc m (w true) ons

  on_entry : (k : ℕ) → k < g.TU → chain_at ons g.TU stop stop (allows m true) (w true) k ≡ back g m w X true (suc k)
  unfolding back
  on_entry k l = go (leb g.TU (suc k)) (λ t. leb→le g.TU (suc k) t) (λ t. nleb→lt g.TU (suc k) t)
    where
      go : (c : Bool) → (T c → g.TU ≤ suc k) → (T (not c) → suc k < g.TU)
          → chain_at ons g.TU stop stop (allows m true) (w true) k ≡ back g m w X true (suc k)
      go true f h =
          let i : g.TU ≤ suc k = f tt in
          rw (
            A.long,
            add-one k,
            eq-eqb (suc k) g.TU (omega arith),
            le-leb g.TU (suc k) i,
            neighbour g X true ons settled A k l,
            B.entry 0 (omega arith),
            zero-add (w true),
          )
      go false f h =
          let i : suc k < g.TU = h tt in
          rw (
            A.long,
            add-one k,
            ne_eqb (suc k) g.TU (λ e. omega arith),
            lt-leb g.TU (suc k) i,
            neighbour g X true ons settled A k l,
            zero-add (w true),
          )

  off_entry : (k : ℕ) → k < cap g false → chain_at offs g.TD hot cold (allows m false) (w false) k ≡ back g m w X false (suc k)
  unfolding back
  off_entry k l = go (leb (cap g false) (suc k)) (λ t. leb→le (cap g false) (suc k) t) (λ t. nleb→lt (cap g false) (suc k) t)
    where
      go : (c : Bool) → (T c → cap g false ≤ suc k) → (T (not c) → suc k < cap g false)
          → chain_at offs g.TD hot cold (allows m false) (w false) k ≡ back g m w X false (suc k)
      go true f h =
          let i : cap g false ≤ suc k = f tt in
          rw (
            B.long,
            add-one k,
            eq-eqb (suc k) (cap g false) (omega arith),
            le-leb g.TD (suc k) (omega arith),
            lt-leb (suc k) (g.TD + g.Tcold) (omega arith),
            neighbour g X false offs settled B k l,
            A.entry 0 TU_pos,
            zero-add (w false),
          ) (lesser_comm _ _)
      go false f h =
          let i : suc k < cap g false = h tt in
          rw (
            B.long,
            add-one k,
            ne_eqb (suc k) (cap g false) (λ e. omega arith),
            le-leb (suc k) (g.TD + g.Tcold) (omega arith),
            neighbour g X false offs settled B k l,
            A.entry 0 TU_pos,
            zero-add (w false),
          ) (early (leb g.TD (suc k)))
        where
          early : (c : Bool)
              → lesser (cond c (cond (allows m true) (plus (g.Hsc + w true) (X true 1)) 0) 0) (cond (allows m false) (plus (w false) (X false (suc (suc k)))) 0)
              ≡ lesser (cond (allows m false) (plus (w false) (X false (suc (suc k)))) 0) (cond (c && allows m true) (plus (g.Hsc + w true) (X true 1)) 0)
          early true = lesser_comm _ _
          early false = lesser_comm _ _

  pub on_chained : (new : List ℕ) → Chained ons new g.TU (leave g m (w false) offs) (leave g m (w false) offs) (allows m true) (w true) → Tabled g (back g m w X) true new
  on_chained new C = record { long = C.same ∙ A.long; entry = λ k l. C.at k (rw A.long l) ∙ on_entry k l }

  pub off_chained : (new : List ℕ) → Chained offs new g.TD (enter g.Hsc m (w true) ons) (enter g.Csc m (w true) ons) (allows m false) (w false) → Tabled g (back g m w X) false new
  off_chained new C = record { long = C.same ∙ B.long; entry = λ k l. C.at k (rw B.long l) ∙ off_entry k l }

-- ---- a loop from the last period to the first

module _ (n : ℕ) (g : Generator) (m : ℕ → Mark) (w : ℕ → Bool → ℕ) where
  -- it starts with a table of ones
  pub tabled_end : (b : Bool) (l : List ℕ) → length l ≡ cap g b → ((k : ℕ) → k < cap g b → get_or l k 0 ≡ 1) → Tabled g (values n g m w n) b l
  tabled_end b l e h = record { long = e; entry = λ k i. h k i ∙ sym (values_end n g m w b (suc k)) }

  -- goes back one period at a time
  pub tabled_back : (t : ℕ) → t < n → (b : Bool) (l : List ℕ) → Tabled g (back g (m t) (w t) (values n g m w (suc t))) b l → Tabled g (values n g m w t) b l
  tabled_back t i b l E =
      tabled_ext g (back g (m t) (w t) (values n g m w (suc t))) (values n g m w t) b l (λ k. sym (values_back n g m w t i b k)) E

  -- and ends with the walk
  pub tabled_start : (b : Bool) (l : List ℕ) → Tabled g (values n g m w 0) b l → (k : ℕ) → 0 < k → 0 < cap g b
      → get_or l (min k (cap g b) - 1) 0 ≡ walk n g m w b k
  tabled_start b l E k i j = tabled_at g (values n g m w 0) b l (values_settled n g m w 0) E k i j ∙ values_start n g m w b k
