-- A unit is stuck just where its walk finds nothing, whatever the periods cost: a run that obeys and agrees bounds the walk, and
-- a walk that finds something has such a run.
use mathlib.Core.Path.{◌≡◌, refl, sym, ◌∙◌, ap}
use mathlib.Core.Bool.{Bool, not}
use mathlib.Core.List.{List}
use Prim.Native.Nat.{ℕ, zero, suc, ◌<◌}
use native.Mathlib.Omega.{arith}
use lib.Dec.{T, eqb}
use lib.ListN.{length}
use borrow.Author.Tests.{eq-eqb, ne_eqb}
use Rattle.model.specs.declared.generator.Generator.{Generator}
use Rattle.model.specs.Above.{Mark, obeys}
use Rattle.model.specs.Leaf.{runs, is_stuck}
use Rattle.model.specs.Walk.{walk}
use Rattle.model.proofs.Tests.{T_true, T_false}
use Rattle.model.proofs.Members.{none_of_not}
use Rattle.model.proofs.Candidates.{none_of_all, run_mem, run_long}
use Rattle.model.proofs.WalkRuns.{obeys→obeying, obeying→obeys, walk_below_run, walk_attained_run}

module _ (n : ℕ) (g : Generator) (m : ℕ → Mark) where
  -- stuck: no run of n statuses obeys and agrees
  pub stuck→none : T (is_stuck n g m) → (run : List Bool) → length run ≡ n → T (obeys g m run) → ⊥
  unfolding is_stuck
  stuck→none s run e t = none_of_not (obeys g m) (runs n) s (run_mem n run e) t

  pub none→stuck : ((run : List Bool) → length run ≡ n → T (obeys g m run) → ⊥) → T (is_stuck n g m)
  unfolding is_stuck
  none→stuck h = none_of_all (obeys g m) (runs n) (λ run k t. h run (run_long n run k) t)

  -- the walk answers it
  pub is_stuck_is : (w : ℕ → Bool → ℕ) → is_stuck n g m ≡ eqb (walk n g m w g.on g.since) 0
  is_stuck_is w = go (walk n g m w g.on g.since) refl
    where
      go : (v : ℕ) → walk n g m w g.on g.since ≡ v → is_stuck n g m ≡ eqb v 0
      go zero e =
          T_true (is_stuck n g m)
          (none→stuck (λ run l t. omega (arith, e, walk_below_run n g m w g.on g.since run (obeys→obeying l t))))
          ∙ sym (eq-eqb 0 0 refl)
      go (suc v) e =
          let a = walk_attained_run n g m w g.on g.since (omega arith) in
          T_false (is_stuck n g m)
          (λ s. stuck→none s a.0 a.1.long (obeying→obeys a.1))
          ∙ sym (ne_eqb (suc v) 0 (λ z. omega arith))

  -- and the answer does not depend on the costs
  pub not_stuck_walk : T (not (is_stuck n g m)) → (w : ℕ → Bool → ℕ) → 0 < walk n g m w g.on g.since
  not_stuck_walk s w = go (walk n g m w g.on g.since) (ap (λ (b : Bool). T (not b)) (is_stuck_is w)) s
    where
      go : (v : ℕ) → T (not (is_stuck n g m)) ≡ T (not (eqb v 0)) → T (not (is_stuck n g m)) → 0 < v
      go zero e s = absurd (rw e at s)
      go (suc v) e s = omega arith
