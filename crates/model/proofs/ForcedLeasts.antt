-- What the entries with a forced status say (document 02, [5]): the lesser of a period's two is what the unit answers; an entry says stuck just where no run has that
-- status there, and else it is the least value of the rows that have it. A run with the status in the period is one that agrees with it forced (ForcedMarks).
use mathlib.Core.Path.{◌≡◌, refl, sym, ◌∙◌, ap, ap₂, subst}
use mathlib.Core.Bool.{Bool, true, false, not, cond}
use mathlib.Core.List.{List}
use mathlib.Core.Logic.{◌⊎◌, inl, inr, ◌↔◌}
use mathlib.Core.Option.{none, some}
use Prim.Native.Nat.{ℕ, zero, suc, ◌≤◌, ◌<◌, min}
use native.Mathlib.Omega.{arith}
use lib.Dec.{T, T_not}
use lib.IntN.{ℤ, pos, ◌-ℤ◌}
use lib.ListN.{length, length-map, get_or, get_or-map}
use lib.Signed.{◌≤ℤ◌}
use Rattle.model.specs.declared.generator.Generator.{Generator}
use Rattle.model.specs.Instance.{◌at◌}
use Rattle.model.specs.Ranges.{GoodUnit}
use Rattle.model.specs.Rules.{on, statuses}
use Rattle.model.specs.Above.{Mark, fixed, allows, obeys}
use Rattle.model.specs.Agreement.{Candidate}
use Rattle.model.specs.Leaf.{is_stuck, value, minℤ, unit_least}
use Rattle.model.specs.Walk.{lesser, walk}
use Rattle.model.specs.Prices.{worth, price_walk, offset, decoded}
use Rattle.model.specs.Forced.{unit_answer, force, forced_least, lesser_entry, value_number, stuck_number}
use Rattle.model.specs.ForcedWalk.{forced_walk}
use Rattle.model.proofs.Integers.{nat→eq, -ℤ-nat, min_shift}
use Rattle.model.proofs.Coded.{lesser_left, lesser_right, lesser_one, coded_same}
use Rattle.model.proofs.WalkRuns.{run_total, Obeying, obeys→obeying, obeying→obeys, walk_below_run, walk_attained_run}
use Rattle.model.proofs.Stuck.{stuck→none, none→stuck}
use Rattle.model.proofs.PriceWalks.{unit_decoded}
use Rattle.model.proofs.UnitLeasts.{unit_least_below, unit_least_attained}
use Rattle.model.proofs.ForcedMarks.{obeying_allows, force_fixed, obeying_forced, forced_obeying}

-- ---- coded values

-- the lesser of two, decoded
pub decoded_lesser : (x y K : ℕ) → lesser_entry (decoded x K) (decoded y K) ≡ decoded (lesser x y) K
unfolding lesser
decoded_lesser zero y K = refl
decoded_lesser (suc x) zero K = refl
decoded_lesser (suc x) (suc y) K =
    let e : min (suc x) (suc y) ≡ suc (min x y) = omega arith in
    ap some
    (nat→eq (minℤ (pos x -ℤ pos K) (pos y -ℤ pos K)) (pos (min x y) -ℤ pos K)
    (omega (arith, min_shift (pos x -ℤ pos K) (pos y -ℤ pos K) x y K (-ℤ-nat x K) (-ℤ-nat y K), -ℤ-nat (min x y) K)))
    ∙ ap (λ (v : ℕ). decoded v K) (sym e)

-- ---- runs

module _ (n t : ℕ) (l : t < n) (g : Generator) (m : ℕ → Mark) (w : ℕ → Bool → ℕ) where
  -- the forced walk is at most what any run costs that has the status there
  pub forced_walk_below : (d : Bool) (run : List Bool) → Obeying n g m g.on g.since run → get_or run t false ≡ d
      → (0 < forced_walk n g m w t d) × (forced_walk n g m w t d ≤ suc (run_total g w g.on g.since run))
  unfolding forced_walk
  forced_walk_below d run o e = go (allows (m t) d) allowed
    where
      allowed : T (allows (m t) d)
      allowed = obeying_allows n t l g m d g.on g.since run o e

      go : (c : Bool) → T c
          → (0 < cond c (walk n g (force t d m) w g.on g.since) 0)
          × (cond c (walk n g (force t d m) w g.on g.since) 0 ≤ suc (run_total g w g.on g.since run))
      go true k = walk_below_run n g (force t d m) w g.on g.since run (obeying_forced n t g m d g.on g.since run o e)
      go false k = absurd k

  -- and one such run costs just that
  pub forced_walk_attained : (d : Bool) → 0 < forced_walk n g m w t d
      → (run : List Bool) × Obeying n g m g.on g.since run × (get_or run t false ≡ d) × (forced_walk n g m w t d ≡ suc (run_total g w g.on g.since run))
  unfolding forced_walk
  forced_walk_attained d h = go (allows (m t) d) (λ k. k) h
    where
      go : (c : Bool) → (T c → T (allows (m t) d)) → 0 < cond c (walk n g (force t d m) w g.on g.since) 0
          → (run : List Bool) × Obeying n g m g.on g.since run × (get_or run t false ≡ d)
          × (cond c (walk n g (force t d m) w g.on g.since) 0 ≡ suc (run_total g w g.on g.since run))
      go true k h =
          let a = walk_attained_run n g (force t d m) w g.on g.since h in
          let o = forced_obeying n t l g m d (k tt) g.on g.since a.0 a.1 in
          (a.0, o.0, o.1, a.2)
      go false k h = absurd (omega arith)

-- the lesser of the two is the unit's walk: a run has one status or the other
pub forced_walk_either : (n t : ℕ) → t < n → (g : Generator) (m : ℕ → Mark) (w : ℕ → Bool → ℕ)
    → lesser (forced_walk n g m w t false) (forced_walk n g m w t true) ≡ walk n g m w g.on g.since
forced_walk_either n t l g m w = coded_same (lesser (F false) (F true)) W (λ h. over h (lesser_one (F false) (F true))) under
  where
    F : Bool → ℕ
    F d = forced_walk n g m w t d

    W : ℕ
    W = walk n g m w g.on g.since

    bounds : (d : Bool) → 0 < F d → (0 < W) × (W ≤ F d)
    bounds d h =
        let a = forced_walk_attained n t l g m w d h in
        omega (arith, a.3, walk_below_run n g m w g.on g.since a.0 a.1)

    over : 0 < lesser (F false) (F true) → (lesser (F false) (F true) ≡ F false) ⊎ (lesser (F false) (F true) ≡ F true)
        → (0 < W) × (W ≤ lesser (F false) (F true))
    over h (inl e) = rw e (bounds false (rw e at h))
    over h (inr e) = rw e (bounds true (rw e at h))

    least : (d : Bool) → 0 < F d → (0 < lesser (F false) (F true)) × (lesser (F false) (F true) ≤ F d)
    least false h = lesser_left (F false) (F true) h
    least true h = lesser_right (F false) (F true) h

    under : 0 < W → (0 < lesser (F false) (F true)) × (lesser (F false) (F true) ≤ W)
    under h =
        let a = walk_attained_run n g m w g.on g.since h in
        let b = forced_walk_below n t l g m w (get_or a.0 t false) a.0 a.1 refl in
        omega (arith, a.2, b.1, least (get_or a.0 t false) b.0)

-- ---- entries from walks

module _ (n : ℕ) (q s : ℕ → ℕ) (g : Generator) where
  -- an entry is the forced walk decoded
  pub forced_decoded : GoodUnit g → (m : ℕ → Mark) (t : ℕ) (d : Bool)
      → forced_least n q s g m t d ≡ decoded (forced_walk n g m (λ t. worth g (q t) (s t)) t d) (offset n q s g)
  unfolding forced_walk price_walk
  forced_decoded good m t d = go (allows (m t) d)
    where
      go : (c : Bool)
          → cond c (unit_answer n q s g (force t d m)) none
          ≡ decoded (cond c (walk n g (force t d m) (λ t. worth g (q t) (s t)) g.on g.since) 0) (offset n q s g)
      go true = unit_decoded n q s g good (force t d m)
      go false = refl

  -- the lesser of a period's two entries is what the unit answers, a stuck one too
  pub forced_agree : GoodUnit g → (m : ℕ → Mark) (t : ℕ) → t < n → lesser_entry (forced_least n q s g m t false) (forced_least n q s g m t true) ≡ unit_answer n q s g m
  unfolding price_walk
  forced_agree good m t l =
      ap₂ lesser_entry (forced_decoded good m t false) (forced_decoded good m t true)
      ∙ decoded_lesser (forced_walk n g m w t false) (forced_walk n g m w t true) (offset n q s g)
      ∙ ap (λ (v : ℕ). decoded v (offset n q s g)) (forced_walk_either n t l g m w)
      ∙ sym (unit_decoded n q s g good m)
    where
      w : ℕ → Bool → ℕ
      w t = worth g (q t) (s t)

-- ---- where an entry says stuck

-- an entry that has a value does not
some_not_none : (z : ℤ) → some z ≡ none → ⊥
some_not_none z e = let k : ◌≡◌ {A = ℕ} 0 1 = ap stuck_number e in omega arith

module _ (n : ℕ) (q s : ℕ → ℕ) (g : Generator) (m : ℕ → Mark) (t : ℕ) (d : Bool) where
  -- with the status forced the unit is stuck, or the period is fixed the other way
  pub forced_stuck_when : (forced_least n q s g m t d ≡ none) ↔ (T (is_stuck n g (force t d m)) ⊎ T (not (allows (m t) d)))
  forced_stuck_when = (λ e. to (allows (m t) d) (is_stuck n g (force t d m)) e, λ h. of (allows (m t) d) (is_stuck n g (force t d m)) h)
    where
      to : (a c : Bool) → cond a (cond c none (some (unit_least n q s g (force t d m)))) none ≡ none → T c ⊎ T (not a)
      to false c e = inr tt
      to true true e = inl tt
      to true false e = absurd (some_not_none (unit_least n q s g (force t d m)) e)

      of : (a c : Bool) → T c ⊎ T (not a) → cond a (cond c none (some (unit_least n q s g (force t d m)))) none ≡ none
      of false c h = refl
      of true true h = refl
      of true false (inl h) = absurd h
      of true false (inr h) = absurd h

  -- in runs: none that obeys and agrees has the status there
  pub forced_none_runs : t < n → (forced_least n q s g m t d ≡ none) ↔ ((run : List Bool) → length run ≡ n → T (obeys g m run) → get_or run t false ≡ d → ⊥)
  forced_none_runs l = (
    λ e run k o i. no_run run (obeys→obeying k o) i (forced_stuck_when.0 e),
    λ h. forced_stuck_when.1 (stuck h (allows (m t) d) (λ k. k)),
  )
    where
      no_run : (run : List Bool) → Obeying n g m g.on g.since run → get_or run t false ≡ d → T (is_stuck n g (force t d m)) ⊎ T (not (allows (m t) d)) → ⊥
      no_run run o i h = go h
        where
          allowed : T (allows (m t) d)
          allowed = obeying_allows n t l g m d g.on g.since run o i

          go : T (is_stuck n g (force t d m)) ⊎ T (not (allows (m t) d)) → ⊥
          go (inl k) = stuck→none n g (force t d m) k run o.long (obeying→obeys (obeying_forced n t g m d g.on g.since run o i))
          go (inr k) = T_not (allows (m t) d) k allowed

      stuck : ((run : List Bool) → length run ≡ n → T (obeys g m run) → get_or run t false ≡ d → ⊥) → (c : Bool) → (T c → T (allows (m t) d))
          → T (is_stuck n g (force t d m)) ⊎ T (not c)
      stuck h true f =
          inl
          (none→stuck n g (force t d m)
          (λ run k o. let p = forced_obeying n t l g m d (f tt) g.on g.since run (obeys→obeying k o) in h run k (obeying→obeys p.0) p.1))
      stuck h false f = inr tt

  -- so every entry of a stuck unit says it
  pub forced_stuck : T (is_stuck n g m) → t < n → forced_least n q s g m t d ≡ none
  forced_stuck k l = (forced_none_runs l).1 (λ run e o i. stuck→none n g m k run e o)

  -- ---- a period that is fixed

  -- with the status that it has the entry is what the unit answers
  pub forced_same : m t ≡ fixed d → forced_least n q s g m t d ≡ unit_answer n q s g m
  forced_same e =
      ap (λ (a : Mark). cond (allows a d) (unit_answer n q s g (force t d m)) none) e
      ∙ own d
      ∙ ap (unit_answer n q s g) (force_fixed t d m e)
    where
      own : (c : Bool) → cond (allows (fixed c) c) (unit_answer n q s g (force t d m)) none ≡ unit_answer n q s g (force t d m)
      own true = refl
      own false = refl

  -- with the other it says stuck
  pub forced_other : m t ≡ fixed (not d) → forced_least n q s g m t d ≡ none
  forced_other e = ap (λ (a : Mark). cond (allows a d) (unit_answer n q s g (force t d m)) none) e ∙ other d
    where
      other : (c : Bool) → cond (allows (fixed (not c)) c) (unit_answer n q s g (force t d m)) none ≡ none
      other true = refl
      other false = refl

-- ---- rows

-- a row's run obeys and agrees
row_obeying : (n : ℕ) (g : Generator) (m : ℕ → Mark) (r : List ℕ) → Candidate n g m r → Obeying n g m g.on g.since (statuses r)
row_obeying n g m r C = obeys→obeying (length-map r on ∙ C.long) C.run

module _ (n t : ℕ) (l : t < n) (g : Generator) (m : ℕ → Mark) (d : Bool) (r : List ℕ) where
  -- a run's status is that of the row's output
  row_status : get_or (statuses r) t false ≡ on (r at t)
  row_status = get_or-map on r t 0

  -- a row with the status there is one of the forced marks
  pub candidate_forced : Candidate n g m r → on (r at t) ≡ d → Candidate n g (force t d m) r
  candidate_forced C e = record {
    long = C.long;
    limits = C.limits;
    run = obeying→obeys (obeying_forced n t g m d g.on g.since (statuses r) o i);
  }
    where
      o : Obeying n g m g.on g.since (statuses r)
      o = row_obeying n g m r C

      i : get_or (statuses r) t false ≡ d
      i = row_status ∙ e

  -- and a row of the forced marks has it, where the marks let it be
  pub forced_candidate : T (allows (m t) d) → Candidate n g (force t d m) r → Candidate n g m r × (on (r at t) ≡ d)
  forced_candidate may C =
      let p = forced_obeying n t l g m d may g.on g.since (statuses r) (row_obeying n g (force t d m) r C) in
      (record { long = C.long; limits = C.limits; run = obeying→obeys p.0 }, sym row_status ∙ p.1)

-- ---- an entry that has a value

module _ (n : ℕ) (q s : ℕ → ℕ) (g : Generator) (m : ℕ → Mark) (t : ℕ) (d : Bool) where
  -- it is the unit's least value with the status forced
  forced_some : (z : ℤ) → forced_least n q s g m t d ≡ some z
      → T (allows (m t) d) × T (not (is_stuck n g (force t d m))) × (unit_least n q s g (force t d m) ≡ z)
  forced_some z e = go (allows (m t) d) (is_stuck n g (force t d m)) e
    where
      go : (a c : Bool) → cond a (cond c none (some (unit_least n q s g (force t d m)))) none ≡ some z → T a × T (not c) × (unit_least n q s g (force t d m) ≡ z)
      go false c e = absurd (some_not_none z (sym e))
      go true true e = absurd (some_not_none z (sym e))
      go true false e = (tt, tt, ap value_number e)

  -- no row with the status there has less
  pub forced_least_below : t < n → (z : ℤ) → forced_least n q s g m t d ≡ some z → (r : List ℕ) → Candidate n g m r → on (r at t) ≡ d → z ≤ℤ value n q s g r
  forced_least_below l z e r C i =
      subst (λ (x : ℤ). x ≤ℤ value n q s g r) (forced_some z e).2 (unit_least_below n q s g (force t d m) r (candidate_forced n t l g m d r C i))

  -- and one has it
  pub forced_least_attained : GoodUnit g → t < n → (z : ℤ) → forced_least n q s g m t d ≡ some z
      → (r : List ℕ) × Candidate n g m r × (on (r at t) ≡ d) × (value n q s g r ≡ z)
  forced_least_attained good l z e =
      let f = forced_some z e in
      let a = unit_least_attained n q s g (force t d m) good f.1 in
      let c = forced_candidate n t l g m d a.0 f.0 a.1 in
      (a.0, c.0, c.1, a.2 ∙ f.2)
