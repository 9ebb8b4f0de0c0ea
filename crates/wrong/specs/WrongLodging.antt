-- Wrong ways of lodging, written out: each answers with a fault that document 01, Conditions of acceptance, names.
use Rattle.std.specs.Prelude.{cond, List, ℕ, suc}
use Rattle.std.specs.Prelude.{None as never}
use Rattle.model.specs.declared.figures.TreeFigures.{TreeFigures}
use Rattle.model.specs.Figures.{tree_gives}
use Rattle.text.specs.Lines.{line_at, kind_of}
use Rattle.text.specs.declared.Kind.{Kind}
use Rattle.text.specs.declared.Kind.TheVariants as kind
use Rattle.docket.specs.declared.Docket.{Docket}
use Rattle.docket.specs.declared.Lodged.{Lodged}
use Rattle.answer.specs.declared.Answer.{Answer}
use Rattle.answer.specs.declared.Answer.TheVariants.{Refused, TextHeld, ScheduleHeld, SchedulePassed, TreeHeld, TreePassed}
use Rattle.docket.specs.Docket.{fresh_docket}
use Rattle.docket.specs.Lodging.{lodged, lodge_of}
use Rattle.docket.specs.Demand3.{Lodging}

abbrev pub refuse_all : Lodging
refuse_all d text = lodged d (Refused (record { number = 12; line = 1; unit = 0; period = 0 }))

-- the same docket, with another answer for a tree
abbrev pub retold : (TreeFigures → TreeFigures) → Answer → Answer
retold f (Refused r) = Refused r
retold f TextHeld = TextHeld
retold f (ScheduleHeld c) = ScheduleHeld c
retold f (SchedulePassed c) = SchedulePassed c
retold f (TreeHeld x) = TreeHeld (f x)
retold f (TreePassed x) = TreePassed (f x)

abbrev pub retelling : (TreeFigures → TreeFigures) → Lodging
retelling f d text = lodged (lodge_of d text).docket (retold f (lodge_of d text).answer)

-- every tree gives never
abbrev pub one_bound : Lodging
one_bound = retelling (λ x. tree_gives never x.splits x.leaves)

-- one split more than there are split lines, or one leaf more
abbrev pub more_splits : Lodging
more_splits = retelling (λ x. tree_gives x.bound (suc x.splits) x.leaves)

abbrev pub more_leaves : Lodging
more_leaves = retelling (λ x. tree_gives x.bound x.splits (suc x.leaves))

abbrev pub never_changing : Lodging
never_changing d text = lodged d (lodge_of d text).answer

-- once a problem is known, every text is refused, or passed
abbrev pub refuse_rest : Lodging
refuse_rest d text = cond d.known (refuse_all d text) (lodge_of d text)

abbrev pub passing_rest : Lodging
passing_rest d text = cond d.known (lodged d (SchedulePassed 0)) (lodge_of d text)

abbrev pub never_figures : TreeFigures
never_figures = tree_gives never 0 1

-- every tree is answered as never once a problem is known
abbrev pub examine_no_tree : Kind → Docket → List ℕ → Lodged
examine_no_tree kind.Unknown d text = lodge_of d text
examine_no_tree kind.Problem d text = lodge_of d text
examine_no_tree kind.Schedule d text = lodge_of d text
examine_no_tree kind.Tree d text = cond d.known (lodged d (TreeHeld never_figures)) (lodge_of d text)

abbrev pub unexamined : Lodging
unexamined d text = examine_no_tree (kind_of (line_at text 0)) d text

-- a problem is taken up as by a fresh docket, whether one is known or not
abbrev pub any_problem : Kind → Docket → List ℕ → Lodged
any_problem kind.Unknown d text = lodge_of d text
any_problem kind.Problem d text = lodge_of fresh_docket text
any_problem kind.Schedule d text = lodge_of d text
any_problem kind.Tree d text = lodge_of d text

abbrev pub second_problem : Lodging
second_problem d text = any_problem (kind_of (line_at text 0)) d text
