-- Document 01, Conditions of acceptance, and document 02: how wrong dockets answer, each said of any way of lodging and of the dockets that it reaches from a fresh one.
-- Demand 3 refutes each.
use Rattle.std.specs.Prelude.{◌≡◌, true, List, ℕ, ◌<◌, Some}
use Rattle.std.proofs.Math.Option.{none}
use Rattle.model.specs.Instance.{Instance}
use Rattle.model.specs.Ranges.{WellFormed, GoodWriter}
use Rattle.model.specs.Figures.{Bound}
use Rattle.std.specs.Prelude.{None as never, Some as number}
use Rattle.model.specs.declared.figures.TreeFigures.{TreeFigures}
use Rattle.model.specs.Above.{count}
use Rattle.model.specs.Tree.{short, stuck, Tree, leaf, fork, splits, leaves, tree_figures}
use Rattle.problem.specs.Rendering as problems
use Rattle.tree.specs.Rendering as rendered
use Rattle.tree.specs.Acceptance.{bounded}
use Rattle.docket.specs.declared.held.CostBy.{CostBy}
use Rattle.docket.specs.declared.held.HeldBound.{HeldBound}
use Rattle.docket.specs.declared.held.HeldBound.TheVariants as bound
use Rattle.answer.specs.StatedAnswers.{its_cost, its_bound, Stated, refused, held, passed, stated, Carries}
use Rattle.docket.specs.Verdicts.{Verdict, tree, known_at_end}
use Rattle.docket.specs.Texts.{Short, Is, Accepted, Are}
use Rattle.docket.specs.Demand3.{Lodging, reached}

-- ---- kinds of answers

abbrev pub IsRefused : Stated → Type 0
IsRefused (refused n l u t) = Unit {0}
IsRefused (held v) = ⊥
IsRefused (passed v) = ⊥

abbrev pub IsHeld : Stated → Type 0
IsHeld (refused n l u t) = ⊥
IsHeld (held v) = Unit {0}
IsHeld (passed v) = ⊥

abbrev pub IsPassed : Stated → Type 0
IsPassed (refused n l u t) = ⊥
IsPassed (held v) = ⊥
IsPassed (passed v) = Unit {0}

-- the bound b is held
abbrev pub IsBound : HeldBound → Bound → Type 0
IsBound bound.Nothing b = ⊥
IsBound (bound.Number by) b = number by.value ≡ b
IsBound (bound.Never by) b = never ≡ b

module _ (lodge : Lodging) where
  -- the answer to a text after a list
  abbrev pub answer : List (List ℕ) → List ℕ → Stated
  answer texts text = stated (lodge (reached lodge texts) text).answer

  -- refusing every text
  abbrev pub RefusesAll : Type 0
  RefusesAll = (texts : List (List ℕ)) (text : List ℕ) → IsRefused (answer texts text)

  -- or every text once a problem is known, of those that should be accepted
  abbrev pub RefusesRest : Type 0
  RefusesRest = (texts : List (List ℕ)) (verdicts : List Verdict) (text : List ℕ) → Are none texts verdicts → Accepted (known_at_end none verdicts) text
      → (reached lodge texts).known ≡ true
      → IsRefused (answer texts text)

  -- giving every tree the bound b
  abbrev pub OneBound : Bound → Type 0
  OneBound b = (texts : List (List ℕ)) (text : List ℕ) (F : TreeFigures) → Carries (answer texts text) (its_bound F) → F.bound ≡ b

  -- judging the first text, a problem, and passing the rest, of those that should be accepted
  abbrev pub PassesRest : Type 0
  PassesRest = (texts : List (List ℕ)) (verdicts : List Verdict) (text : List ℕ) → Are none texts verdicts → Accepted (known_at_end none verdicts) text
      → (reached lodge texts).known ≡ true
      → IsPassed (answer texts text)

  -- inventing splits or leaves: of some tree that is accepted after some list, not its counts of lines
  pub record Invents : Type 0 where
    pub texts : List (List ℕ)
    pub verdicts : List Verdict
    pub texts_are : Are none texts verdicts
    pub P : Instance
    pub writer : ℕ
    pub its : Tree
    pub accepted : Is (known_at_end none verdicts) (rendered.render writer its) (tree (bounded writer (tree_figures P its)))
    pub given : TreeFigures
    pub carries : Carries (answer texts (rendered.render writer its)) (its_bound given)
    pub invented : (given.splits ≡ splits its) × (given.leaves ≡ leaves its) → ⊥

  -- calling a unit stuck unexamined: accepting a lone leaf stuck=U of every writer, of every unit of the problem
  abbrev pub StuckUnexamined : Type 0
  StuckUnexamined = (texts : List (List ℕ)) (w U : ℕ) → (reached lodge texts).known ≡ true → GoodWriter w → U < (reached lodge texts).problem.units
      → IsRefused (answer texts (rendered.render w (leaf (stuck U))))
      → ⊥

  -- calling a problem never unexamined: accepting a lone leaf short=P of every writer, of every period of the problem
  abbrev pub NeverUnexamined : Type 0
  NeverUnexamined = (texts : List (List ℕ)) (w t : ℕ) → (reached lodge texts).known ≡ true → GoodWriter w → t < (reached lodge texts).problem.periods
      → IsRefused (answer texts (rendered.render w (leaf (short t))))
      → ⊥

  -- document 02, [1]: refusing every tree that begins with a count, as it was before
  abbrev pub CountsUnread : Type 0
  CountsUnread = (texts : List (List ℕ)) (w t K : ℕ) (x y : Tree) → IsRefused (answer texts (rendered.render w (fork (count t K) x y)))

  -- never answering with a number: of 36 and 37, crowd leaves unexamined, counts let in beside any others
  abbrev pub NeverAnswers : ℕ → Type 0
  NeverAnswers n = (texts : List (List ℕ)) (text : List ℕ) (l : ℕ) → answer texts text ≡ refused n l 0 0 → ⊥

  -- letting a second problem in
  abbrev pub SecondProblem : Type 0
  SecondProblem = (texts : List (List ℕ)) (P : Instance) → (reached lodge texts).known ≡ true → WellFormed P → Short (problems.render P)
      → IsHeld (answer texts (problems.render P))

  -- keeping the last of the schedules with the least cost: one that costs what the held one costs is held
  abbrev pub KeepsLast : Type 0
  KeepsLast = (texts : List (List ℕ)) (text : List ℕ) (by : CostBy) → (reached lodge texts).held.cost ≡ Some by
      → Carries (answer texts text) (its_cost by.cost)
      → IsHeld (answer texts text)

  -- keeping the last of the trees with the highest bound: one whose bound is the held one is held
  abbrev pub KeepsLastTree : Type 0
  KeepsLastTree = (texts : List (List ℕ)) (text : List ℕ) (F : TreeFigures) → IsBound (reached lodge texts).held.bound F.bound
      → Carries (answer texts text) (its_bound F)
      → IsHeld (answer texts text)
