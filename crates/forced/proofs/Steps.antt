-- The lists after a step are one period ahead of those before it. A state's value is a list's or that of the run that has not changed its status: either goes on in
-- its status or into the other, for no more than that costs; and every value after the step has come so.
use mathlib.Core.Path.{◌≡◌, refl, sym, ◌∙◌, ap, subst}
use mathlib.Core.Logic.{◌⊎◌, inl, inr}
use mathlib.Core.Bool.{Bool, true, false, cond, ◌&&◌, beq}
use mathlib.Core.List.{List}
use Prim.Native.Nat.{ℕ, zero, suc, ◌+◌, ◌-◌, ◌≤◌, ◌<◌, min}
use native.Mathlib.Decide.{dec_le}
use native.Mathlib.Omega.{arith}
use borrow.Author.Tests.{le-leb, lt-leb}
use lib.Dec.{T, leb, leb→le}
use lib.ListN.{length}
use Rattle.model.specs.declared.generator.Generator.{Generator}
use Rattle.model.specs.Instance.{◌at◌}
use Rattle.model.specs.Ranges.{GoodUnit}
use Rattle.model.specs.Rules.{permits, spent}
use Rattle.model.specs.Cost.{switch_cost}
use Rattle.model.specs.Above.{Mark, allows}
use Rattle.model.specs.Walk.{Values, lesser, move, cap}
use Rattle.model.specs.Table.{kept}
use Rattle.model.specs.Ends.{capped}
use Rattle.model.specs.ForcedWalk.{least_upto, may, State, Ahead}
use Rattle.model.proofs.Tests.{T_and, T_and_l, T_and_r}
use Rattle.model.proofs.Coded.{lesser_left, lesser_right, lesser_one}
use Rattle.model.proofs.CodedSums.{upto_below, upto_attained}
use Rattle.model.proofs.WalkRuns.{move_inv}
use Rattle.model.proofs.StateEnds.{permits_capped, switch_capped, spent_capped, cap_pos, capped_state}
use Rattle.forced.specs.Forward.{of_status, listed, own_at, states, Shifted, started, stopped, own_into, Stepped}
use Rattle.forced.proofs.Owns.{same_or, spent_same, own_here, own_only, own_into_from}
use Rattle.forced.proofs.Shifts.{Cheap, kept_some, shift_enters, shift_keeps, shift_from, Entered, KeptFrom}

-- a status that has lasted long enough can be left
may_leave : (n i : ℕ) (c : Bool) → n ≤ i → T c → T (leb n i && c)
may_leave n i c h t = T_and (leb n i) c (rw (le-leb n i h) tt) t

-- ---- one step

module _ {g : Generator} (good : GoodUnit g) (m : Mark) (w : Bool → ℕ) (k own own' : ℕ) (k_pos : 1 ≤ k) (ons offs ons' offs' : List ℕ)
    (long : (length ons ≡ g.TU) × (length offs ≡ g.TD + g.Tcold + 1)) (S : Stepped g m w k own ons offs ons' offs')
    (next : own' ≡ move g m (w g.on) g.on k g.on own) where
  abbrev X : Values
  X = states g k own ons offs

  abbrev Y : Values
  Y = states g (suc k) own' ons' offs'

  abbrev L : Bool → List ℕ
  L = of_status ons offs

  abbrev L' : Bool → List ℕ
  L' = of_status ons' offs'

  -- what the lists bring to a status, and the run that has not changed its own
  abbrev brought : Bool → ℕ
  brought true = started g m (w true) offs
  brought false = stopped g m (w false) ons

  abbrev joins : Bool → ℕ
  joins d = own_into g m (w d) k d own

  shifted : (d : Bool) → Shifted (L d) (L' d) (lesser (brought d) (joins d)) (allows m d) (w d)
  shifted true = S.of_on
  shifted false = S.of_off

  list_long : (d : Bool) → length (L d) ≡ cap g d
  list_long true = long.0
  list_long false = long.1

  -- ---- to a state after the step

  listed_cheap : (d : Bool) (j z : ℕ) → Cheap (listed (L' d) j) z → Cheap (Y d j) z
  listed_cheap d j z h = omega (arith, h, lesser_left (listed (L' d) j) (own_at g (suc k) own' d j) h.0)

  -- a value that enters the status d
  entered_cheap : (d : Bool) (z : ℕ) → Cheap (lesser (brought d) (joins d)) z → Cheap (Y d (capped g d 1)) z
  entered_cheap d z h =
      let c = cap_pos good d in
      let one : 1 ≡ capped g d 1 = omega arith in
      subst (λ (j : ℕ). Cheap (Y d j) z) one (listed_cheap d 1 z (shift_enters (shifted d) (omega (arith, list_long d)) z h))

  brought_cheap : (d : Bool) (z : ℕ) → Cheap (brought d) z → Cheap (Y d (capped g d 1)) z
  brought_cheap d z h = let i = lesser_left (brought d) (joins d) h.0 in entered_cheap d z (i.0, omega arith)

  joins_cheap : (d : Bool) (z : ℕ) → Cheap (joins d) z → Cheap (Y d (capped g d 1)) z
  joins_cheap d z h = let i = lesser_right (brought d) (joins d) h.0 in entered_cheap d z (i.0, omega arith)

  -- one that keeps it
  stays_cheap : (d : Bool) (i : ℕ) → suc i ≤ cap g d → T (allows m d) → 0 < L d at i → Cheap (Y d (capped g d (suc (suc i)))) (w d + L d at i)
  stays_cheap d i l a h =
      listed_cheap d (capped g d (suc (suc i))) (w d + L d at i)
      (subst (λ (n : ℕ). Cheap (listed (L' d) (min (suc (suc i)) n)) (w d + L d at i)) (list_long d)
      (shift_keeps (shifted d) i (omega (arith, list_long d)) a h))

  -- ---- from a list

  -- the states off from which a start is hot
  abbrev hots : ℕ → ℕ
  hots i = offs at (g.TD - 1 + i)

  abbrev hot : ℕ
  hot = kept (allows m true) (g.Hsc + w true) (least_upto (suc g.Tcold) hots)

  abbrev cold : ℕ
  cold = kept (allows m true) (g.Csc + w true) (offs at (g.TD + g.Tcold))

  start_cheap : (i : ℕ) → g.TD ≤ suc i → suc i ≤ g.TD + g.Tcold + 1 → T (allows m true) → 0 < offs at i
      → Cheap (started g m (w true) offs) (switch_cost g false (suc i) true + w true + offs at i)
  start_cheap i l l' a h = go (dec_le (suc i) (g.TD + g.Tcold))
    where
      go : Dec (suc i ≤ g.TD + g.Tcold) → Cheap (started g m (w true) offs) (switch_cost g false (suc i) true + w true + offs at i)
      go (yes y) =
          let j = suc i - g.TD in
          let place : g.TD - 1 + j ≡ i = omega (arith, good.in_range.TD_in) in
          let is : hots j ≡ offs at i = ap (λ (x : ℕ). offs at x) place in
          let b = upto_below (suc g.Tcold) hots j (omega arith) (omega (arith, is, h)) in
          let v : hot ≡ g.Hsc + w true + least_upto (suc g.Tcold) hots =
          kept_some (allows m true) (g.Hsc + w true) (least_upto (suc g.Tcold) hots) a b.0 in
          let c : switch_cost g false (suc i) true ≡ g.Hsc = ap (λ (x : Bool). cond x g.Hsc g.Csc) (le-leb (suc i) (g.TD + g.Tcold) y) in
          omega (arith, is, b, v, c, lesser_left hot cold (omega (arith, v, b)))
      go (no y) =
          let place : g.TD + g.Tcold ≡ i = omega arith in
          let is : offs at (g.TD + g.Tcold) ≡ offs at i = ap (λ (x : ℕ). offs at x) place in
          let v : cold ≡ g.Csc + w true + offs at (g.TD + g.Tcold) =
          kept_some (allows m true) (g.Csc + w true) (offs at (g.TD + g.Tcold)) a (omega (arith, is, h)) in
          let c : switch_cost g false (suc i) true ≡ g.Csc = ap (λ (x : Bool). cond x g.Hsc g.Csc) (lt-leb (suc i) (g.TD + g.Tcold) (omega arith)) in
          omega (arith, is, v, c, lesser_right hot cold (omega (arith, v, is, h)))

  list_below : (b : Bool) (i : ℕ) (d : Bool) → State g b i → 0 < listed (L b) i → may g m b i d
      → Cheap (Y d (capped g d (spent b i d))) (switch_cost g b i d + w d + listed (L b) i)
  list_below b zero d s h p = absurd (omega arith)
  list_below true (suc i) true s h p = omega (arith, stays_cheap true i s.1 p h)
  list_below false (suc i) false s h p = omega (arith, stays_cheap false i s.1 p h)
  list_below true (suc i) false s h p =
      let up : g.TU ≤ suc i = leb→le g.TU (suc i) (T_and_l (leb g.TU (suc i)) (allows m false) p) in
      let place : g.TU - 1 ≡ i = omega (arith, s) in
      let is : ons at (g.TU - 1) ≡ ons at i = ap (λ (x : ℕ). ons at x) place in
      let a = T_and_r (leb g.TU (suc i)) (allows m false) p in
      let v : stopped g m (w false) ons ≡ g.Dc + w false + ons at (g.TU - 1) =
      kept_some (allows m false) (g.Dc + w false) (ons at (g.TU - 1)) a (omega (arith, is, h)) in
      brought_cheap false (g.Dc + w false + ons at i) (omega (arith, v, is, h))
  list_below false (suc i) true s h p =
      brought_cheap true (switch_cost g false (suc i) true + w true + offs at i)
      (start_cheap i (leb→le g.TD (suc i) (T_and_l (leb g.TD (suc i)) (allows m true) p)) s.1 (T_and_r (leb g.TD (suc i)) (allows m true) p) h)

  -- ---- from the run that has not changed its status

  own_below : (d : Bool) → 0 < own → may g m g.on k d → Cheap (Y d (capped g d (spent g.on k d))) (switch_cost g g.on k d + w d + own)
  own_below d h p = go (same_or g.on d)
    where
      moved : move g m (w d) g.on k d own ≡ switch_cost g g.on k d + w d + own
      moved = kept_some (permits g g.on k d && allows m d) (switch_cost g g.on k d + w d) own p h

      here : own' ≡ switch_cost g g.on k d + w d + own → Cheap (Y g.on (capped g g.on (suc k))) (switch_cost g g.on k d + w d + own)
      here e =
          let there = own_here g (suc k) own' in
          let i = capped g g.on (suc k) in
          omega (arith, e, there, lesser_right (listed (L' g.on) i) (own_at g (suc k) own' g.on i) (omega (arith, e, there, h)))

      go : (g.on ≡ d) ⊎ ((beq g.on d ≡ false) × ((k : ℕ) → spent g.on k d ≡ 1))
          → Cheap (Y d (capped g d (spent g.on k d))) (switch_cost g g.on k d + w d + own)
      go (inl e) =
          subst (λ (x : ℕ). Cheap (Y d (capped g d x)) (switch_cost g g.on k d + w d + own))
          (sym (spent_same g.on k) ∙ ap (λ (x : Bool). spent g.on k x) e)
          (subst (λ (x : Bool). Cheap (Y x (capped g x (suc k))) (switch_cost g g.on k d + w d + own)) e
          (here (next ∙ ap (λ (x : Bool). move g m (w x) g.on k x own) e ∙ moved)))
      go (inr e) =
          let is : joins d ≡ move g m (w d) g.on k d own = ap (λ (c : Bool). cond c 0 (move g m (w d) g.on k d own)) e.0 in
          subst (λ (x : ℕ). Cheap (Y d (capped g d x)) (switch_cost g g.on k d + w d + own)) (sym (e.1 k))
          (joins_cheap d (switch_cost g g.on k d + w d + own) (omega (arith, is, moved, h)))

  -- its state in the table does the same
  own_state_below : (d : Bool) → 0 < own → may g m g.on (capped g g.on k) d
      → Cheap (Y d (capped g d (spent g.on (capped g g.on k) d))) (switch_cost g g.on (capped g g.on k) d + w d + own)
  own_state_below d h p =
      let c = own_below d h (subst (λ (x : Bool). T (x && allows m d)) (permits_capped g g.on k d) p) in
      let to : Y d (capped g d (spent g.on (capped g g.on k) d)) ≡ Y d (capped g d (spent g.on k d)) = ap (Y d) (spent_capped g g.on k d) in
      omega (arith, c, to, switch_capped g g.on k d)

  -- ---- no value after the step is above one that leads to it

  ahead_below : (b : Bool) (i : ℕ) (d : Bool) → State g b i → 0 < X b i → may g m b i d
      → Cheap (Y d (capped g d (spent b i d))) (switch_cost g b i d + w d + X b i)
  ahead_below b i d s h p = go (lesser_one (listed (L b) i) (own_at g k own b i))
    where
      To : ℕ → Bool → ℕ → Type 0
      To v b i = may g m b i d → Cheap (Y d (capped g d (spent b i d))) (switch_cost g b i d + w d + v)

      go : (X b i ≡ listed (L b) i) ⊎ (X b i ≡ own_at g k own b i) → Cheap (Y d (capped g d (spent b i d))) (switch_cost g b i d + w d + X b i)
      go (inl e) = omega (arith, e, list_below b i d s (omega (arith, e, h)) p)
      go (inr e) =
          let o = own_only g k own b i (omega (arith, e, h)) in
          let c = subst (λ (x : Bool). To own x i) (sym o.0) (subst (To own g.on) (sym o.1) (own_state_below d (omega (arith, e, o.2, h)))) p in
          omega (arith, e, o.2, c)

  -- ---- and each has come from one

  abbrev Found : Bool → ℕ → Type 0
  Found d j =
      (b : Bool) × (i : ℕ) × State g b i × (0 < X b i) × may g m b i d × (capped g d (spent b i d) ≡ j) × (Y d j ≡ switch_cost g b i d + w d + X b i)

  -- a state from which the value is no less
  found : (b : Bool) (i : ℕ) (d : Bool) (j : ℕ) → State g b i → 0 < X b i → may g m b i d → capped g d (spent b i d) ≡ j
      → switch_cost g b i d + w d + X b i ≤ Y d j → Found d j
  found b i d j s h p e l =
      let c = ahead_below b i d s h p in
      let to : Y d (capped g d (spent b i d)) ≡ Y d j = ap (Y d) e in
      (b, i, s, h, p, e, omega (arith, c, to, l))

  found_listed : (b : Bool) (i : ℕ) (d : Bool) (j : ℕ) → State g b i → 0 < listed (L b) i → may g m b i d → capped g d (spent b i d) ≡ j
      → Y d j ≡ switch_cost g b i d + w d + listed (L b) i → Found d j
  found_listed b i d j s h p e is =
      let x = lesser_left (listed (L b) i) (own_at g k own b i) h in
      found b i d j s x.0 p e (omega (arith, x, is))

  found_own : (d : Bool) (j : ℕ) → 0 < own → may g m g.on k d → capped g d (spent g.on k d) ≡ j
      → Y d j ≡ switch_cost g g.on k d + w d + own → Found d j
  found_own d j h p e is =
      let i = capped g g.on k in
      let there = own_here g k own in
      let x = lesser_right (listed (L g.on) i) (own_at g k own g.on i) (omega (arith, there, h)) in
      found g.on i d j (capped_state good g.on k k_pos) x.0 (subst (λ (c : Bool). T (c && allows m d)) (sym (permits_capped g g.on k d)) p)
      (spent_capped g g.on k d ∙ e) (omega (arith, x, is, there, switch_capped g g.on k d))

  -- what the lists have brought to a status
  abbrev Source : Bool → ℕ → Type 0
  Source d v =
      (b : Bool) × (i : ℕ) × State g b i × (0 < listed (L b) i) × may g m b i d × (spent b i d ≡ 1) × (v ≡ switch_cost g b i d + w d + listed (L b) i)

  start_from : 0 < started g m (w true) offs → Source true (started g m (w true) offs)
  start_from h = go (lesser_one hot cold)
    where
      go : (started g m (w true) offs ≡ hot) ⊎ (started g m (w true) offs ≡ cold) → Source true (started g m (w true) offs)
      go (inl e) =
          let v = move_inv (allows m true) (g.Hsc + w true) (least_upto (suc g.Tcold) hots) (omega (arith, e, h)) in
          let u = upto_attained (suc g.Tcold) hots v.1 in
          let i = g.TD - 1 + u.0 in
          let down = good.in_range.TD_in.0 in
          let c : switch_cost g false (suc i) true ≡ g.Hsc =
          ap (λ (x : Bool). cond x g.Hsc g.Csc) (le-leb (suc i) (g.TD + g.Tcold) (omega (arith, u.1, down))) in (
            false,
            suc i,
            (omega arith, omega (arith, u.1, down)),
            omega (arith, u.2, v.1),
            may_leave g.TD (suc i) (allows m true) (omega (arith, down)) v.0,
            refl,
            omega (arith, e, v.2, u.2, c),
          )
      go (inr e) =
          let i = g.TD + g.Tcold in
          let v = move_inv (allows m true) (g.Csc + w true) (offs at i) (omega (arith, e, h)) in
          let c : switch_cost g false (suc i) true ≡ g.Csc = ap (λ (x : Bool). cond x g.Hsc g.Csc) (lt-leb (suc i) (g.TD + g.Tcold) (omega arith)) in
          (false, suc i, (omega arith, omega arith), v.1, may_leave g.TD (suc i) (allows m true) (omega arith) v.0, refl, omega (arith, e, v.2, c))

  stop_from : 0 < stopped g m (w false) ons → Source false (stopped g m (w false) ons)
  stop_from h =
      let i = g.TU - 1 in
      let up = good.in_range.TU_in.0 in
      let v = move_inv (allows m false) (g.Dc + w false) (ons at i) h in
      (true, suc i, (omega arith, omega (arith, up)), v.1, may_leave g.TU (suc i) (allows m false) (omega (arith, up)) v.0, refl, v.2)

  brought_from : (d : Bool) → 0 < brought d → Source d (brought d)
  brought_from true h = start_from h
  brought_from false h = stop_from h

  -- a value that has entered a status, or kept it
  entered_found : (d : Bool) (j : ℕ) → capped g d 1 ≡ j → 0 < Y d j → Y d j ≡ lesser (brought d) (joins d) → Found d j
  entered_found d j to h is = go (lesser_one (brought d) (joins d))
    where
      go : (lesser (brought d) (joins d) ≡ brought d) ⊎ (lesser (brought d) (joins d) ≡ joins d) → Found d j
      go (inl e) =
          let z = brought_from d (omega (arith, is, e, h)) in
          found_listed z.0 z.1 d j z.2 z.3 z.4 (ap (capped g d) z.5 ∙ to) (omega (arith, is, e, z.6))
      go (inr e) =
          let z = own_into_from g m (w d) k d own (omega (arith, is, e, h)) in
          found_own d j z.2 z.1 (ap (capped g d) z.0 ∙ to) (omega (arith, is, e, z.3))

  stayed_found : (d : Bool) (i j : ℕ) → i < cap g d → T (allows m d) → 0 < L d at i → min (suc (suc i)) (cap g d) ≡ j → Y d j ≡ w d + L d at i → Found d j
  stayed_found true i j l a h e is = found_listed true (suc i) true j (omega arith, l) h a e (omega (arith, is))
  stayed_found false i j l a h e is = found_listed false (suc i) false j (omega arith, l) h a e (omega (arith, is))

  list_found : (d : Bool) (j : ℕ) → 0 < Y d j → Y d j ≡ listed (L' d) j → Found d j
  list_found d zero h is = absurd (omega (arith, is))
  list_found d (suc j) h is = go (shift_from (shifted d) j (omega (arith, is, h)))
    where
      go : Entered (shifted d) j ⊎ KeptFrom (shifted d) j → Found d (suc j)
      go (inl e) =
          let c = cap_pos good d in
          entered_found d (suc j) (omega (arith, e.0)) h (is ∙ e.1)
      go (inr e) =
          stayed_found d e.0 (suc j) (omega (arith, e.1, list_long d)) e.2 e.3 (omega (arith, e.4, list_long d)) (is ∙ e.5)

  own_found : (j : ℕ) → j ≡ capped g g.on (suc k) → 0 < Y g.on j → Y g.on j ≡ own' → Found g.on j
  own_found j to h is =
      let i = move_inv (permits g g.on k g.on && allows m g.on) (switch_cost g g.on k g.on + w g.on) own (omega (arith, is, next, h)) in
      found_own g.on j i.1 i.0 (ap (capped g g.on) (spent_same g.on k) ∙ sym to) (is ∙ next ∙ i.2)

  ahead_attained : (d : Bool) (j : ℕ) → 0 < Y d j → Found d j
  ahead_attained d j h = go (lesser_one (listed (L' d) j) (own_at g (suc k) own' d j))
    where
      go : (Y d j ≡ listed (L' d) j) ⊎ (Y d j ≡ own_at g (suc k) own' d j) → Found d j
      go (inl e) = list_found d j h e
      go (inr e) =
          let o = own_only g (suc k) own' d j (omega (arith, e, h)) in
          subst (λ (x : Bool). 0 < Y x j → Y x j ≡ own' → Found x j) (sym o.0) (own_found j o.1) h (e ∙ o.2)

  pub step_ahead : Ahead g m w X Y
  step_ahead = record { below = ahead_below; attained = ahead_attained }
