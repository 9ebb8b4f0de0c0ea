-- A table of the periods passed, joined with the values of the periods left, gives the walk with a status forced: a run with the status d in period t is a front
-- of t + 1 statuses that ends in d, which the table has, and a rear, which the values have. Where d is fixed otherwise no front ends in it.
use mathlib.Core.Path.{◌≡◌, refl, sym, ◌∙◌, ap, ap₂, subst}
use mathlib.Core.Bool.{Bool, true, false, cond}
use mathlib.Core.List.{List, ◌++◌}
use Prim.Native.Nat.{ℕ, suc, ◌+◌, ◌-◌, ◌≤◌, ◌<◌}
use native.Mathlib.Omega.{arith}
use lib.Dec.{T}
use lib.ListN.{get_or, take, drop, get_or-append}
use Rattle.model.specs.declared.generator.Generator.{Generator}
use Rattle.model.specs.Ranges.{GoodUnit}
use Rattle.model.specs.Above.{Mark, allows}
use Rattle.model.specs.Forced.{force}
use Rattle.model.specs.Walk.{Values, walk}
use Rattle.model.specs.Table.{values}
use Rattle.model.specs.Ends.{lasted, capped}
use Rattle.model.specs.ForcedWalk.{both, forced_walk, State, Joined}
use Rattle.model.proofs.Tests.{true_T}
use Rattle.model.proofs.Coded.{coded_same}
use Rattle.model.proofs.WalkRuns.{Obeying, walk_below_run, walk_attained_run}
use Rattle.model.proofs.Passed.{end_status, end_count, cost_of, Passed}
use Rattle.model.proofs.CodedSums.{both_some}
use Rattle.model.proofs.StateEnds.{end_state}
use Rattle.model.proofs.Caps.{walk_cap}
use Rattle.model.proofs.WalkPeriods.{from}
use Rattle.model.proofs.RunParts.{total_parts, obeying_append, Parts, obeying_parts, last_is, last_take}
use Rattle.model.proofs.ForcedMarks.{obeying_allows, obeying_forced, forced_obeying}

module _ {g : Generator} {m : ℕ → Mark} {w : ℕ → Bool → ℕ} (good : GoodUnit g) (n t : ℕ) (t<n : t < n) (d : Bool) (X : Values)
    (passed : Passed g m w (suc t) X) (e : ℕ) (joined : Joined g d X (values n g m w (suc t)) e) where
  -- for how many periods the last status of a run has lasted
  abbrev count : List Bool → ℕ
  count r = lasted g.on g.since r

  -- the marks, the costs and the walk of the periods left
  abbrev marks_left : ℕ → Mark
  marks_left = from (suc t) m

  abbrev costs_left : ℕ → Bool → ℕ
  costs_left = from (suc t) w

  abbrev left : Values
  left = walk (n - suc t) g marks_left costs_left

  -- the walk with the status forced
  abbrev forced : ℕ
  forced = walk n g (force t d m) w g.on g.since

  -- the value of the state in which a front ends
  left_capped : (b : Bool) (k : ℕ) → values n g m w (suc t) b (capped g b k) ≡ left b k
  unfolding values
  left_capped b k = walk_cap (n - suc t) g marks_left costs_left b k

  -- ---- d is allowed where a front ends in it, so where the entry is there

  ends_allowed : (r : List Bool) → Obeying (suc t) g m g.on g.since r → end_status g r ≡ d → T (allows (m t) d)
  ends_allowed r o s =
      obeying_allows (suc t) t (omega arith) g m d g.on g.since r o (sym (last_is g.on r t o.long) ∙ s)

  entry_allowed : 0 < e → T (allows (m t) d)
  entry_allowed h =
      let a = joined.attained h in
      let z = passed.attained d a.0 a.2 in
      ends_allowed z.0 z.1 z.2

  -- ---- where it is allowed

  module _ (allowed : T (allows (m t) d)) where
    -- a front that ends in d and a rear cost no less than the walk
    appended_below : (r r' : List Bool) → Obeying (suc t) g m g.on g.since r → end_status g r ≡ d
        → Obeying (n - suc t) g marks_left (end_status g r) (count r) r'
        → (0 < forced) × (forced ≤ suc (cost_of g w (r ++ r')))
    appended_below r r' o s o' =
        walk_below_run n g (force t d m) w g.on g.since (r ++ r') (obeying_forced n t g m d g.on g.since (r ++ r') whole status)
      where
        sum : suc t + (n - suc t) ≡ n
        sum = omega arith

        whole : Obeying n g m g.on g.since (r ++ r')
        whole = subst (λ (x : ℕ). Obeying x g m g.on g.since (r ++ r')) sum (obeying_append (suc t) (n - suc t) g m g.on g.since r r' o o')

        status : get_or (r ++ r') t false ≡ d
        status = get_or-append r r' false t (omega (arith, o.long)) ∙ sym (last_is g.on r t o.long) ∙ s

    -- the entry is not below the walk
    walk_below : 0 < e → (0 < forced) × (forced ≤ e)
    walk_below h =
        let a = joined.attained h in
        let z = passed.attained d a.0 a.2 in
        by a.0 a.2 a.3 a.4 z.0 z.1 z.2 z.3 z.4
      where
        by : (k : ℕ) → 0 < X d k → 0 < values n g m w (suc t) d k → e ≡ both (X d k) (values n g m w (suc t) d k) → (r : List Bool)
            → Obeying (suc t) g m g.on g.since r → end_status g r ≡ d → end_count g r ≡ k → X d k ≡ suc (cost_of g w r)
            → (0 < forced) × (forced ≤ e)
        by k x y is r o s c cost =
            let same : values n g m w (suc t) d k ≡ left (end_status g r) (count r) =
            sym (ap₂ (values n g m w (suc t)) s c) ∙ left_capped (end_status g r) (count r) in
            let z = walk_attained_run (n - suc t) g marks_left costs_left (end_status g r) (count r) (omega (arith, same, y)) in
            let total = total_parts g w g.on g.since (suc t) r z.0 o.long in
            omega (arith, is, both_some (X d k) (values n g m w (suc t) d k) x y, cost, same, z.2, total, appended_below r z.0 o s z.1)

    -- nor is it above a front that ends in d and what is left after it
    front_below : (r : List Bool) → end_status g r ≡ d → 0 < X (end_status g r) (end_count g r) → 0 < left (end_status g r) (count r)
        → (0 < e) × (suc e ≤ X (end_status g r) (end_count g r) + left (end_status g r) (count r))
    front_below r s x y =
        let same = left_capped (end_status g r) (count r) in
        let y' : 0 < Y (end_status g r) = omega (arith, same, y) in
        omega (arith, same, x, y, both_some (X (end_status g r) (end_count g r)) (Y (end_status g r)) x y', subst Below (sym s) below (end_state good r) x y')
      where
        Y : Bool → ℕ
        Y c = values n g m w (suc t) c (end_count g r)

        Below : Bool → Type 0
        Below c = State g c (end_count g r) → 0 < X c (end_count g r) → 0 < Y c → (0 < e) × (e ≤ both (X c (end_count g r)) (Y c))

        below : Below d
        below = joined.below (end_count g r)

    -- and the walk is not below the entry
    entry_below : 0 < forced → (0 < e) × (e ≤ forced)
    entry_below h =
        let z = walk_attained_run n g (force t d m) w g.on g.since h in
        let f = forced_obeying n t t<n g m d allowed g.on g.since z.0 z.1 in
        by z.0 f.0 f.1 z.2
      where
        cut : (run r r' : List Bool) → Parts n (suc t) g m g.on g.since run r r' → end_status g r ≡ d → forced ≡ suc (cost_of g w run)
            → (0 < e) × (e ≤ forced)
        cut run r r' p s cost =
            let x = passed.below r p.first in
            let y = walk_below_run (n - suc t) g marks_left costs_left (end_status g r) (count r) r' p.then in
            let total = ap (cost_of g w) p.is ∙ total_parts g w g.on g.since (suc t) r r' p.first.long in
            omega (arith, x, y, total, cost, front_below r s x.0 y.0)

        by : (run : List Bool) → Obeying n g m g.on g.since run → get_or run t false ≡ d → forced ≡ suc (cost_of g w run) → (0 < e) × (e ≤ forced)
        by run o s cost =
            cut run (take (suc t) run) (drop (suc t) run) (obeying_parts n (suc t) t<n g m g.on g.since run o)
            (last_take g.on run t (omega (arith, o.long)) ∙ s) cost

  -- so they are the same
  pub entry_is : e ≡ forced_walk n g m w t d
  unfolding forced_walk
  entry_is = go (allows (m t) d) refl
    where
      go : (c : Bool) → allows (m t) d ≡ c → e ≡ cond c forced 0
      go true a = let allowed : T (allows (m t) d) = true_T (allows (m t) d) a in coded_same e forced (walk_below allowed) (entry_below allowed)
      go false a = coded_same e 0 (λ h. absurd (subst T a (entry_allowed h))) (λ h. absurd (omega arith))
