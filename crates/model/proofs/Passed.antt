-- A table of the periods passed, by what it means: for each state before a period, the least cost of the runs that end in it. None costs less, one costs that, and
-- a state in which none ends has no value.
use mathlib.Core.Path.{◌≡◌}
use mathlib.Core.Bool.{Bool}
use mathlib.Core.List.{List}
use Prim.Native.Nat.{ℕ, suc, ◌≤◌, ◌<◌}
use Rattle.model.specs.declared.generator.Generator.{Generator}
use Rattle.model.specs.Above.{Mark}
use Rattle.model.specs.Walk.{Values}
use Rattle.model.specs.Ends.{last, lasted, capped}
use Rattle.model.proofs.WalkRuns.{run_total, Obeying}

-- the state that a run from before period 1 ends in
abbrev pub end_status : Generator → List Bool → Bool
end_status g run = last g.on run

abbrev pub end_count : Generator → List Bool → ℕ
end_count g run = capped g (end_status g run) (lasted g.on g.since run)

-- what it costs
abbrev pub cost_of : Generator → (ℕ → Bool → ℕ) → List Bool → ℕ
cost_of g w run = run_total g w g.on g.since run

-- the table before period t: the runs have t statuses
pub record Passed (g : Generator) (m : ℕ → Mark) (w : ℕ → Bool → ℕ) (t : ℕ) (X : Values) : Type 0 where
  pub below : (run : List Bool) → Obeying t g m g.on g.since run
      → (0 < X (end_status g run) (end_count g run)) × (X (end_status g run) (end_count g run) ≤ suc (cost_of g w run))
  pub attained : (b : Bool) (k : ℕ) → 0 < X b k
      → (run : List Bool) × Obeying t g m g.on g.since run × (end_status g run ≡ b) × (end_count g run ≡ k) × (X b k ≡ suc (cost_of g w run))
