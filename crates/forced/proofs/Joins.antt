-- An entry by the code is the table of the periods passed joined with the values of the periods left: a state's value is a list's, below the place t, or that of the
-- run that has not changed its status.
use mathlib.Core.Path.{◌≡◌, refl, sym, ◌∙◌, ap, subst}
use mathlib.Core.Logic.{◌⊎◌, inl, inr}
use mathlib.Core.Bool.{Bool, true, false, cond, beq}
use mathlib.Core.List.{List}
use Prim.Native.Nat.{ℕ, zero, suc, ◌+◌, ◌*◌, ◌≤◌, ◌<◌, min}
use native.Mathlib.Decide.{dec_le}
use native.Mathlib.Omega.{arith}
use lib.ListN.{length}
use Rattle.model.specs.declared.generator.Generator.{Generator}
use Rattle.model.specs.Instance.{◌at◌}
use Rattle.model.specs.Ranges.{GoodUnit}
use Rattle.model.specs.Above.{Mark}
use Rattle.model.specs.Walk.{Values, cap}
use Rattle.model.specs.Table.{values}
use Rattle.model.specs.Ends.{capped}
use Rattle.model.specs.ForcedWalk.{both, least_upto, State, Joined}
use Rattle.model.proofs.Tests.{T_true, beq_refl}
use Rattle.model.proofs.Coded.{lesser_left, lesser_right, lesser_one}
use Rattle.model.proofs.CodedSums.{both_some, both_inv, upto_below, upto_attained}
use Rattle.model.proofs.StateEnds.{capped_state}
use Rattle.model.proofs.Caps.{settled_cap}
use Rattle.model.proofs.WalkPeriods.{values_settled}
use Rattle.runs.specs.Kept.{first_of, kept_in, Kept}
use Rattle.runs.proofs.Tables.{kept_walk}
use Rattle.forced.specs.Forward.{Beyond, of_status, listed, own_at, states}
use Rattle.forced.specs.Entries.{entry_of}
use Rattle.forced.proofs.Shifts.{Cheap, at_inside}
use Rattle.forced.proofs.Owns.{beq_same, own_here, own_only}

module _ {n : ℕ} {g : Generator} {m : ℕ → Mark} {w : ℕ → Bool → ℕ} {table : List ℕ} (good : GoodUnit g) (K : Kept n g m w table) (t : ℕ) (t≤n : t ≤ n)
    (own : ℕ) (ons offs : List ℕ) (long : (length ons ≡ g.TU) × (length offs ≡ g.TD + g.Tcold + 1)) (beyond : Beyond t ons × Beyond t offs) (d : Bool) where
  abbrev X : Values
  X = states g (g.since + t) own ons offs

  abbrev Y : Values
  Y = values n g m w t

  abbrev l : List ℕ
  l = of_status ons offs d

  -- the sums over the list, and that of the run that has not changed its status
  abbrev sums : ℕ → ℕ
  sums i = both (l at i) (table at (t * 145 + first_of d + i))

  abbrev first : ℕ
  first = least_upto (min t (length l)) sums

  abbrev second : ℕ
  second = cond (beq g.on d) (both own (kept_in g table t d (g.since + t))) 0

  abbrev entry : ℕ
  entry = entry_of g table t d l own

  list_long : length l ≡ cap g d
  list_long = go d
    where
      go : (c : Bool) → length (of_status ons offs c) ≡ cap g c
      go true = long.0
      go false = long.1

  list_reach : (i : ℕ) → 0 < l at i → i < t
  list_reach i h = go (dec_le t i)
    where
      none : (c : Bool) → t ≤ i → of_status ons offs c at i ≡ 0
      none true y = beyond.0 i y
      none false y = beyond.1 i y

      go : Dec (t ≤ i) → i < t
      go (yes y) = absurd (omega (arith, none d y))
      go (no y) = omega arith

  -- the value kept for a state of the list, and for the run that has not changed its status
  list_kept : (i : ℕ) → i < cap g d → sums i ≡ both (l at i) (Y d (suc i))
  list_kept i h = ap (both (l at i)) (K.rows t t≤n d i h)

  own_kept : both own (kept_in g table t d (g.since + t)) ≡ both own (Y d (capped g d (g.since + t)))
  own_kept =
      ap (both own)
      (kept_walk n g m w table K good t t≤n d (g.since + t) (omega (arith, good.in_range.since_in.0))
      ∙ sym (settled_cap g Y (values_settled n g m w t) d (g.since + t)))

  -- ---- the entry is at most the sum at any state

  list_below : (i : ℕ) → 0 < l at i → 0 < Y d (suc i) → Cheap entry (both (l at i) (Y d (suc i)))
  list_below i x y =
      let inside = at_inside l i x in
      let is = list_kept i (omega (arith, inside, list_long)) in
      let u = upto_below (min t (length l)) sums i (omega (arith, inside, list_reach i x)) (omega (arith, is, x, y, both_some (l at i) (Y d (suc i)) x y)) in
      omega (arith, is, u, lesser_left first second u.0)

  own_below : g.on ≡ d → 0 < own → 0 < Y d (capped g d (g.since + t)) → Cheap entry (both own (Y d (capped g d (g.since + t))))
  own_below e x y =
      let same : beq g.on d ≡ true = subst (λ (c : Bool). beq g.on c ≡ true) e (T_true (beq g.on g.on) (beq_refl g.on)) in
      let is : second ≡ both own (kept_in g table t d (g.since + t)) = ap (λ (c : Bool). cond c (both own (kept_in g table t d (g.since + t))) 0) same in
      omega (arith, is, own_kept, lesser_right first second (omega (arith, is, own_kept, x, y, both_some own (Y d (capped g d (g.since + t))) x y)))

  joined_below : (k : ℕ) → State g d k → 0 < X d k → 0 < Y d k → Cheap entry (both (X d k) (Y d k))
  joined_below k s x y = go k x y (lesser_one (listed l k) (own_at g (g.since + t) own d k))
    where
      go : (k : ℕ) → 0 < X d k → 0 < Y d k → (X d k ≡ listed l k) ⊎ (X d k ≡ own_at g (g.since + t) own d k) → Cheap entry (both (X d k) (Y d k))
      go zero x y (inl e) = absurd (omega (arith, e))
      go (suc i) x y (inl e) = subst (λ (v : ℕ). Cheap entry (both v (Y d (suc i)))) (sym e) (list_below i (omega (arith, e, x)) y)
      go k x y (inr e) =
          let o = own_only g (g.since + t) own d k (omega (arith, e, x)) in
          let here : k ≡ capped g d (g.since + t) = o.1 ∙ ap (λ (c : Bool). capped g c (g.since + t)) (sym o.0) in
          subst (λ (v : ℕ). Cheap entry (both v (Y d k))) (sym (e ∙ o.2))
          (subst (λ (j : ℕ). 0 < Y d j → Cheap entry (both own (Y d j))) (sym here) (own_below (sym o.0) (omega (arith, e, o.2, x))) y)

  -- ---- and it is one of them

  abbrev Found : Type 0
  Found = (k : ℕ) × State g d k × (0 < X d k) × (0 < Y d k) × (entry ≡ both (X d k) (Y d k))

  -- a state at which the sum is no more, since the value is no more than v
  found : (k v : ℕ) → State g d k → Cheap (X d k) v → 0 < Y d k → entry ≡ both v (Y d k) → Found
  found k v s x y is =
      let b = joined_below k s x.0 y in
      (k, s, x.0, y, omega (arith, b, is, both_some v (Y d k) (omega (arith, x)) y, both_some (X d k) (Y d k) x.0 y, x))

  list_found : 0 < entry → entry ≡ first → Found
  list_found h e =
      let u = upto_attained (min t (length l)) sums (omega (arith, e, h)) in
      let i = u.0 in
      let inside : i < cap g d = omega (arith, u.1, list_long) in
      let is : entry ≡ both (l at i) (Y d (suc i)) = e ∙ u.2 ∙ list_kept i inside in
      let some = both_inv (l at i) (Y d (suc i)) (omega (arith, is, h)) in
      found (suc i) (l at i) (omega arith, inside) (lesser_left (l at i) (own_at g (g.since + t) own d (suc i)) some.0) some.1 is

  own_found : 0 < entry → entry ≡ second → Found
  own_found h e = go (beq g.on d) refl e
    where
      k : ℕ
      k = capped g d (g.since + t)

      go : (c : Bool) → beq g.on d ≡ c → entry ≡ cond c (both own (kept_in g table t d (g.since + t))) 0 → Found
      go false c e = absurd (omega (arith, e))
      go true c e =
          let is : entry ≡ both own (Y d k) = e ∙ own_kept in
          let some = both_inv own (Y d k) (omega (arith, is, h)) in
          let same = beq_same g.on d c in
          let here : own_at g (g.since + t) own d k ≡ own =
          subst (λ (x : Bool). own_at g (g.since + t) own x (capped g x (g.since + t)) ≡ own) same (own_here g (g.since + t) own) in
          let x = lesser_right (listed l k) (own_at g (g.since + t) own d k) (omega (arith, here, some)) in
          found k own (capped_state good d (g.since + t) (omega (arith, good.in_range.since_in.0))) (x.0, omega (arith, x, here)) some.1 is

  joined_attained : 0 < entry → Found
  joined_attained h = go (lesser_one first second)
    where
      go : (entry ≡ first) ⊎ (entry ≡ second) → Found
      go (inl e) = list_found h e
      go (inr e) = own_found h e

  pub entry_joined : Joined g d X Y (entry_of g table t d l own)
  entry_joined = record { below = joined_below; attained = joined_attained }
