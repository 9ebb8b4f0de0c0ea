-- The least value of (1), with given outputs and over all of u, p, cu and cd; and the least cost of a schedule.
use Rattle.std.specs.Prelude.{◌≡◌, ℕ, ◌≤◌}
use Rattle.model.specs.Instance.{Instance, Schedule}
use Rattle.source.specs.Source.{Source, Fifteen, Costs, objective}

-- v is the least objective with the outputs p, over all u, cu and cd
pub record LeastWith (F : Fifteen) (P : Instance) (p : ℕ → ℕ → ℕ) (v : ℕ) : Type 0 where
  pub u : ℕ → ℕ → ℕ
  pub cu : ℕ → ℕ → ℕ
  pub cd : ℕ → ℕ → ℕ
  pub source : Source P u p
  pub costs : Costs F P u cu cd
  pub value : objective P u p cu cd ≡ v
  pub least : (u cu cd : ℕ → ℕ → ℕ) → Source P u p → Costs F P u cu cd → v ≤ objective P u p cu cd

-- v is the least objective over all u, p, cu and cd, u and p solving E: what the paper's problem asks for, with `Source P` as E
pub record LeastObjective (E : (ℕ → ℕ → ℕ) → (ℕ → ℕ → ℕ) → Type 0) (F : Fifteen) (P : Instance) (v : ℕ) : Type 0 where
  pub u : ℕ → ℕ → ℕ
  pub p : ℕ → ℕ → ℕ
  pub cu : ℕ → ℕ → ℕ
  pub cd : ℕ → ℕ → ℕ
  pub solves : E u p
  pub costs : Costs F P u cu cd
  pub value : objective P u p cu cd ≡ v
  pub least : (u p cu cd : ℕ → ℕ → ℕ) → E u p → Costs F P u cu cd → v ≤ objective P u p cu cd

-- v is the least k of a schedule that meets the rules M
pub record LeastCost (M : Schedule → Type 0) (k : Schedule → ℕ) (v : ℕ) : Type 0 where
  pub s : Schedule
  pub meets : M s
  pub value : k s ≡ v
  pub least : (s : Schedule) → M s → v ≤ k s
