-- The walk along a row's statuses: one status further, what it comes to at the row's end, and the room that it has.
use mathlib.Core.Path.{◌≡◌, refl, sym, ap, ◌∙◌}
use mathlib.Core.Bool.{Bool, true, false, not, not-not}
use mathlib.Core.List.{List, [], ◌∷◌}
use Prim.Native.Nat.{ℕ, zero, suc, ◌+◌, ◌*◌, ◌≤◌, ◌<◌}
use native.Mathlib.Numerals.{add-one}
use native.Mathlib.Omega.{arith}
use lib.ListN.{length}
use Rattle.model.specs.declared.generator.Generator.{Generator}
use Rattle.model.specs.Instance.{◌at◌, sum}
use Rattle.model.specs.Ranges.{GoodUnit}
use Rattle.model.specs.Rules.{on, statuses, permits, spent}
use Rattle.model.specs.Cost.{switch_cost, switch_costs}
use Rattle.model.proofs.PeriodSums.{sum_most}
use Rattle.model.proofs.WalkSizes.{switch_cost_fits}
use Rattle.judge.specs.declared.tallies.Walk.{Walk}
use Rattle.judge.specs.Before.{status_before, spent_before}
use Rattle.judge.specs.Counts.{bit, barred}
use Rattle.judge.specs.Walk.{one_further, Room, switch_in, walk_to}
use Rattle.judge.proofs.Sums.{sum_next}
use Rattle.judge.proofs.Counts.{breaches_most}
use Rattle.judge.proofs.Before.{status_next, spent_next, permitted_by}

-- ---- one status further

-- a walk by its parts
abbrev pub walk_of : Bool → ℕ → ℕ → ℕ → Walk
walk_of b k n c = record { on = b; spent = k; barred = n; cost = c }

pub walk_same : {b b' : Bool} {k k' n n' c c' : ℕ} → b ≡ b' → k ≡ k' → n ≡ n' → c ≡ c' → walk_of b k n c ≡ walk_of b' k' n' c'
walk_same p q u v = cc

module _ (g : Generator) (r : List ℕ) where
  module _ (t : ℕ) (h : t < length r) where
    counted : bit (not (permits g (walk_to g r t).on (walk_to g r t).spent (on (r at t)))) ≡ bit (barred t g r)
    counted = ap (λ (b : Bool). bit (not b)) (sym (permitted_by g g.on g.since r t h)) ∙ ap bit (not-not (barred t g r))

    pub walk_next : one_further g (walk_to g r t) (on (r at t)) ≡ walk_to g r (t + 1)
    walk_next =
        walk_same
        (rw (add-one t) (sym (status_next g.on r t h)))
        (rw (add-one t) (sym (spent_next g.on g.since r t h)))
        (omega (arith, counted, sum_next t (λ i. bit (barred i g r))))
        (sym (sum_next t (switch_in g r)))

  -- what the walk costs is what the starts and stops do
  pub switches_are : sum (length r) (switch_in g r) ≡ switch_costs g g.on g.since (statuses r)
  switches_are = go g.on g.since r
    where
      go : (b : Bool) (k : ℕ) (r : List ℕ)
          → sum (length r) (λ t. switch_cost g (status_before b (statuses r) t) (spent_before b k (statuses r) t) (on (r at t))) ≡ switch_costs g b k (statuses r)
      go b k [] = refl
      go b k (p ∷ r) = ap (λ (x : ℕ). switch_cost g b k (on p) + x) (go (on p) (spent b k (on p)) r)

-- ---- how large it grows

spent_most : (b : Bool) (k : ℕ) (run : List Bool) (t : ℕ) → spent_before b k run t ≤ k + t
spent_most b k run zero = omega arith
spent_most b k [] (suc t) = omega arith
spent_most b k (d ∷ run) (suc t) = omega (arith, spent_most d (spent b k d) run t, one b d)
  where
    one : (b d : Bool) → spent b k d ≤ k + 1
    one true true = omega arith
    one true false = omega arith
    one false true = omega arith
    one false false = omega arith

module _ (g : Generator) (good : GoodUnit g) (r : List ℕ) where
  pub switches_most : (t : ℕ) → sum t (switch_in g r) ≤ t * 1000000000
  switches_most t =
      sum_most t 1000000000 (switch_in g r)
      (λ i h. switch_cost_fits g good (status_before g.on (statuses r) i) (spent_before g.on g.since (statuses r) i) (on (r at i)))

  pub walk_room : (t : ℕ) → t ≤ 48 → Room (walk_to g r t)
  walk_room t h = record {
    spent_in = omega (arith, good.in_range.since_in.1, spent_most g.on g.since (statuses r) t);
    barred_in = omega (arith, breaches_most barred g r t);
    cost_in = omega (arith, switches_most t);
  }
