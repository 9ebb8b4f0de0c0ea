-- Document 01, The list of demand 3: what the texts of a list are, decided by renderings, limits, rules and refusal numbers alone.
use Rattle.std.specs.Prelude.{◌≡◌, List, [], ◌∷◌, ℕ, ◌≤◌, ◌<◌, length}
use Rattle.std.proofs.Math.Option.{Option, none, some}
use Rattle.model.specs.Instance.{Instance, Schedule}
use Rattle.model.specs.Ranges.{WellFormed, GoodWriter, GoodRows}
use Rattle.model.specs.Rules.{Meets}
use Rattle.model.specs.Cost.{cost}
use Rattle.model.specs.Above.{root}
use Rattle.model.specs.Tree.{Tree, Limits, Holds, tree_figures}
use Rattle.refusal.specs.declared.Refusal.{Refusal}
use Rattle.refusal.specs.Refusals.{line_refusal}
use Rattle.text.specs.Lines.{ended, line_at, kind_problem, kind_schedule, kind_tree}
use Rattle.problem.specs.Rendering as problems
use Rattle.problem.specs.Refusals as of_problem
use Rattle.schedule.specs.Rendering as schedules
use Rattle.schedule.specs.Acceptance.{RefusedFor}
use Rattle.tree.specs.Rendering as trees
use Rattle.tree.specs.Acceptance.{bounded}
use Rattle.tree.specs.Refusals as of_tree
use Rattle.docket.specs.Verdicts.{Verdict, refused, problem, schedule, tree, known_after}

-- at most 1,048,576 bytes
abbrev pub Short : List ℕ → Type 0
Short text = length text ≤ 1048576

-- the first line, ended by byte 10
abbrev pub Begins : List ℕ → List ℕ → Type 0
Begins text word = line_at text 0 ≡ ended word

-- a refusal with its line, no unit and no period
abbrev pub refused_line : ℕ → ℕ → Verdict
refused_line n l = refused (line_refusal n l)

-- what a text is, where an earlier text gave the problem, or none did
pub data Is : Option Instance → List ℕ → Verdict → Type 0 where
  -- 11: line 0
  too_long : {o : Option Instance} {text : List ℕ} → 1048576 < length text → Is o text (refused_line 11 0)
  -- 12 for the first line
  no_kind : {o : Option Instance} {text : List ℕ} → Short text
      → (Begins text kind_problem → ⊥) → (Begins text kind_schedule → ⊥) → (Begins text kind_tree → ⊥)
      → Is o text (refused_line 12 1)
  -- 41: a problem is held already
  second_problem : {P : Instance} {text : List ℕ} → Short text → Begins text kind_problem → Is (some P) text (refused_line 41 0)
  -- 42: any other kind while none is held
  schedule_early : {text : List ℕ} → Short text → Begins text kind_schedule → Is none text (refused_line 42 0)
  tree_early : {text : List ℕ} → Short text → Begins text kind_tree → Is none text (refused_line 42 0)
  -- a problem: 12 to 15 at a line; else the text is that of a well-formed problem
  problem_refused : {text : List ℕ} (n l : ℕ) → Short text → Begins text kind_problem → of_problem.RefusedAt text n l → Is none text (refused_line n l)
  a_problem : {text : List ℕ} (P : Instance) → Short text → text ≡ problems.render P → WellFormed P → Is none text (problem P)
  -- a schedule: 12 to 14 at a line, or 21 to 25; else the text is that of rows in range that meet the rules
  schedule_refused : {P : Instance} {text : List ℕ} (r : Refusal) → Short text → Begins text kind_schedule → RefusedFor P text r
      → Is (some P) text (refused r)
  a_schedule : {P : Instance} {text : List ℕ} (w : ℕ) (s : Schedule) → Short text → text ≡ schedules.render w s
      → GoodWriter w → GoodRows P s → Meets P s
      → Is (some P) text (schedule (record { writer = w; cost = cost P s; rows = s }))
  -- a tree: 12 to 14 or 31 to 37 at a line; else the text is that of a tree within the limits, every leaf of which meets its rule
  tree_refused : {P : Instance} {text : List ℕ} (n l : ℕ) → Short text → Begins text kind_tree → of_tree.RefusedAt P text n l → Is (some P) text (refused_line n l)
  a_tree : {P : Instance} {text : List ℕ} (w : ℕ) (t : Tree) → Short text → text ≡ trees.render w t
      → GoodWriter w → Limits P root 0 t → Holds P root t
      → Is (some P) text (tree (bounded w (tree_figures P t)))

-- a text that is accepted: it is something, and that is no refusal
pub record Accepted (o : Option Instance) (text : List ℕ) : Type 0 where
  pub as_what : Verdict
  pub is : Is o text as_what
  pub unrefused : (r : Refusal) → as_what ≡ refused r → ⊥

-- what the texts of a list are, each at its place
pub data Are : Option Instance → List (List ℕ) → List Verdict → Type 0 where
  no_more : {o : Option Instance} → Are o [] []
  then : {o : Option Instance} {text : List ℕ} {texts : List (List ℕ)} {v : Verdict} {vs : List Verdict}
      → Is o text v → Are (known_after o v) texts vs → Are o (text ∷ texts) (v ∷ vs)
