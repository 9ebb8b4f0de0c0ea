-- never can be held: 60 are demanded of a unit that gives 50 at most, and a lone short=1 says so.
use mathlib.Core.Path.{◌≡◌, refl, ap, ◌∙◌}
use mathlib.Core.Bool.{false}
use mathlib.Core.List.{List, [], ◌∷◌}
use mathlib.Core.Option.{none, some}
use Rattle.model.specs.Instance.{Instance}
use Rattle.model.specs.Ranges.{midnight_ordered, ordered}
use Rattle.model.specs.Leaf.{usable, available, is_stuck}
use Rattle.std.specs.Prelude.{None as never}
use Rattle.model.specs.Figures.{tree_gives}
use Rattle.model.specs.Tree.{leaf_bound}
use Rattle.refusal.specs.Refusals.{refusal_of, carries_line, carries_unit, carries_period}
use Rattle.text.specs.Lines.{kind_of}
use Rattle.text.specs.Course.{judged_from}
use Rattle.text.specs.Forms.{malformed, wrong_count, outside_range}
use Rattle.problem.specs.Course as problem_course
use Rattle.problem.specs.Units.{unit_of}
use Rattle.tree.specs.NodeLines.{line_kind_of, kind_tests}
use Rattle.tree.specs.Course as tree_course
use Rattle.tree.specs.Acceptance.{bounded}
use Rattle.docket.specs.declared.Docket.{Docket}
use Rattle.docket.specs.declared.held.HeldBound.TheVariants as held_bound
use Rattle.docket.specs.Verdicts as verdict
use Rattle.docket.specs.Verdicts.{Verdict, known_at_end}
use Rattle.docket.specs.Texts.{Is, no_more, then}
use Rattle.docket.specs.Lodging.{text_judged, admit}
use Rattle.docket.specs.Promised.{after}
use Rattle.docket.specs.Specimens as specimens
use Rattle.docket.specs.Specimens.{too_little, short_tree}
use Rattle.docket.proofs.OneVerdict.{verdict_of}
use Rattle.docket.proofs.ListVerdicts.{fine_after, are_verdicts}
use Rattle.docket.proofs.Lists.{lodges}
use Rattle.docket.proofs.Reached.{docket_of}
use Rattle.docket.proofs.Specimens.{judged_as}

abbrev little : Instance
little = record {
  periods = 1;
  demand = 60 ∷ [];
  spare = 0 ∷ [];
  units = record { a = 0; b = 0; c = 0; pL = 10; pU = 50; TU = 1; TD = 1; on = false; since = 2; DR = 50; UR = 50; Hsc = 20; Csc = 60; Tcold = 1; Dc = 0; p0 = 0 } ∷ [];
}

gives : verdict_of none too_little ≡ verdict.problem little
unfolding text_judged admit kind_of problem_course.problem_judged judged_from problem_course.judge malformed wrong_count outside_range unit_of ordered midnight_ordered too_little
gives = refl

gives_never : verdict_of (some little) short_tree ≡ verdict.tree (bounded 9 (tree_gives never 0 1))
unfolding text_judged admit kind_of tree_course.tree_judged judged_from tree_course.judge tree_course.tests tree_course.next_due tree_course.after_node line_kind_of malformed wrong_count outside_range kind_tests leaf_bound available usable is_stuck refusal_of carries_line carries_unit carries_period specimens.tree_text
gives_never = refl

pub never_held : (after (too_little ∷ short_tree ∷ [])).held.bound ≡ held_bound.Never (record { writer = 9 })
never_held =
    let i : Is none too_little (verdict.problem little) = judged_as none tt too_little (verdict.problem little) gives in
    let are = then i (then (judged_as (some little) (fine_after none too_little (verdict.problem little) tt i) short_tree _ gives_never) no_more) in
    ap (λ (d : Docket). d.held.bound) (lodges none [] (refl, refl) (too_little ∷ short_tree ∷ [])).docket_is
    ∙ ap (λ (vs : List Verdict). (docket_of (known_at_end none vs) vs).held.bound) (are_verdicts none (too_little ∷ short_tree ∷ []) _ tt are)
