-- Document 01, Rules for a leaf, and document 02, [1]: forks, and what the forks above a node fix.
use Rattle.std.specs.Prelude.{Bool, true, false, cond, ◌&&◌, List, [], ◌∷◌, ℕ, suc, ◌≤◌, ◌<◌, eqb}
use Rattle.std.specs.Bool.{beq}
use Rattle.std.proofs.Math.Option.{Option, none, some}
use Rattle.model.specs.declared.generator.Generator.{Generator}
use Rattle.model.specs.Rules.{keeps}

-- of one unit in one period: nothing, or its status
pub data Mark : Type 0 where
  free : Mark
  fixed : Bool → Mark

-- by unit and period
abbrev pub Marks : Type 0
Marks = ℕ → ℕ → Mark

-- all that stands above a node: statuses, and for each period how many units may run, if an upper count stands, and how many have to
pub record Above : Type 0 where
  pub marks : Marks
  pub most : ℕ → Option ℕ
  pub least : ℕ → ℕ

-- above the root stands nothing
abbrev pub root : Above
root = record { marks = λ u t. free; most = λ t. none; least = λ t. 0 }

abbrev pub mark : ℕ → ℕ → Bool → Marks → Marks
mark U P b m u t = cond (eqb U u && eqb P t) (fixed b) (m u t)

-- period P's value replaced
abbrev pub put : {X : Type 0} → ℕ → X → (ℕ → X) → ℕ → X
put P x f t = cond (eqb P t) x (f t)

-- what a node with two trees below it splits on: the status of a unit in a period, or in a period whether more than so many units run
pub data Fork : Type 0 where
  status : ℕ → ℕ → Fork
  count : ℕ → ℕ → Fork

-- above its first tree (false) U is off in P, above its second on; above its first at most K units run in P, above its second K + 1 or more
abbrev pub side : Fork → Bool → Above → Above
side (status U P) b A = record { marks = mark U P b A.marks; most = A.most; least = A.least }
side (count P K) false A = record { marks = A.marks; most = put P (some K) A.most; least = A.least }
side (count P K) true A = record { marks = A.marks; most = A.most; least = put P (suc K) A.least }

-- n against an upper count: at most it, below it, above it; where none stands everything is below and nothing above
abbrev pub AtMost : ℕ → Option ℕ → Type 0
AtMost n none = Unit {0}
AtMost n (some K) = n ≤ K

abbrev pub BelowMost : ℕ → Option ℕ → Type 0
BelowMost n none = Unit {0}
BelowMost n (some K) = n < K

abbrev pub AboveMost : ℕ → Option ℕ → Type 0
AboveMost n none = ⊥
AboveMost n (some K) = K < n

-- the marks of the units after the first
abbrev pub rest : Marks → Marks
rest m u = m (suc u)

abbrev pub allows : Mark → Bool → Bool
allows free d = true
allows (fixed b) d = beq b d

-- a run of statuses agrees with the marks of its unit
abbrev pub agrees : (ℕ → Mark) → List Bool → Bool
agrees m [] = true
agrees m (d ∷ run) = allows (m 0) d && agrees (λ t. m (suc t)) run

-- a run that obeys (5) to (10) and agrees
abbrev pub obeys : Generator → (ℕ → Mark) → List Bool → Bool
obeys g m run = keeps g g.on g.since run && agrees m run
