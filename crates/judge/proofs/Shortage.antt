-- (2) and (3) are broken first in the first period in which what is given is less than what is asked.
use mathlib.Core.Path.{◌≡◌, ap}
use mathlib.Core.Bool.{Bool, not}
use mathlib.Core.Option.{none, some}
use mathlib.Core.List.{List}
use Prim.Native.Nat.{ℕ, ◌+◌, ◌≤◌, ◌<◌}
use native.Mathlib.Numerals.{add-one}
use native.Mathlib.Omega.{arith}
use borrow.Author.Tests.{le-leb, lt-leb}
use lib.Dec.{leb}
use lib.Seq.{get_or-take}
use Rattle.model.specs.declared.arrays.Problem.{Problem}
use Rattle.model.specs.Instance.{◌at◌}
use Rattle.model.specs.Held.{view}
use Rattle.model.specs.Rules.{output, capacity}
use Rattle.model.specs.Breach.{no_unit, first_place, place22, place23}
use Rattle.judge.specs.Rows.{schedule_of}
use Rattle.judge.proofs.Search.{place_found, no_place_found}

module _ (n : ℕ) (asked given : ℕ → ℕ) where
  pub shortage_found : (t : ℕ) → t < n → ((k : ℕ) → k < t → asked k ≤ given k) → given t < asked t
      → first_place n (λ t. no_unit (not (leb (asked t) (given t)))) ≡ some (record { unit = 0; period = t + 1 })
  shortage_found t h before here =
      rw (add-one t) (place_found n (λ t. no_unit (not (leb (asked t) (given t)))) t 0 h
      (λ k m. ap (λ (b : Bool). no_unit (not b)) (le-leb (asked k) (given k) (before k m)))
      (ap (λ (b : Bool). no_unit (not b)) (lt-leb (asked t) (given t) here)))

  pub no_shortage_found : ((k : ℕ) → k < n → asked k ≤ given k) → first_place n (λ t. no_unit (not (leb (asked t) (given t)))) ≡ none
  no_shortage_found before =
      no_place_found n (λ t. no_unit (not (leb (asked t) (given t))))
      (λ k m. ap (λ (b : Bool). no_unit (not b)) (le-leb (asked k) (given k) (before k m)))

module _ (p : Problem) (l : List ℕ) where
  abbrev pub given_in : ℕ → ℕ
  given_in t = output (view p) (schedule_of p l) t

  abbrev pub capacity_in : ℕ → ℕ
  capacity_in t = capacity (view p) (schedule_of p l) t

  demand_at : (t : ℕ) → t < p.periods → (view p).demand at t ≡ p.demand at t
  unfolding view
  demand_at t h = get_or-take p.periods p.demand t 0 h

  spare_at : (t : ℕ) → t < p.periods → (view p).spare at t ≡ p.spare at t
  unfolding view
  spare_at t h = get_or-take p.periods p.spare t 0 h

  -- the demand of each period before t is met
  abbrev pub DemandMet : ℕ → Type 0
  DemandMet t = (k : ℕ) → k < t → p.demand at k ≤ given_in k

  -- and its spare
  abbrev pub SpareMet : ℕ → Type 0
  SpareMet t = (k : ℕ) → k < t → p.demand at k + p.spare at k ≤ capacity_in k

  pub demand_found : (t : ℕ) → t < p.periods → DemandMet t → given_in t < p.demand at t
      → place22 (view p) (schedule_of p l) ≡ some (record { unit = 0; period = t + 1 })
  unfolding view
  demand_found t h before here =
      shortage_found p.periods (λ t. (view p).demand at t) given_in t h
      (λ k m. omega (arith, demand_at k (omega arith), before k m)) (omega (arith, demand_at t h))

  pub demand_ends : DemandMet p.periods → place22 (view p) (schedule_of p l) ≡ none
  unfolding view
  demand_ends before =
      no_shortage_found p.periods (λ t. (view p).demand at t) given_in (λ k m. omega (arith, demand_at k m, before k m))

  pub spare_found : (t : ℕ) → t < p.periods → SpareMet t → capacity_in t < p.demand at t + p.spare at t
      → place23 (view p) (schedule_of p l) ≡ some (record { unit = 0; period = t + 1 })
  unfolding view
  spare_found t h before here =
      shortage_found p.periods (λ t. (view p).demand at t + (view p).spare at t) capacity_in t h
      (λ k m. omega (arith, demand_at k (omega arith), spare_at k (omega arith), before k m)) (omega (arith, demand_at t h, spare_at t h))

  pub spare_ends : SpareMet p.periods → place23 (view p) (schedule_of p l) ≡ none
  unfolding view
  spare_ends before =
      no_shortage_found p.periods (λ t. (view p).demand at t + (view p).spare at t) capacity_in
      (λ k m. omega (arith, demand_at k m, spare_at k m, before k m))
