-- Document 01's marked specimens, lodged from a fresh docket: what each text is at its place decides the answer to it.
use Rattle.std.specs.Prelude.{Some}
use mathlib.Core.Path.{◌≡◌, refl, ap, ◌∙◌}
use mathlib.Core.List.{List, [], ◌∷◌, map}
use mathlib.Core.Option.{none, some}
use Prim.Native.Nat.{ℕ}
use lib.IntN.{pos}
use Rattle.model.specs.Instance.{Instance}
use Rattle.model.specs.Ranges.{All}
use Rattle.std.specs.Prelude.{Some as number}
use Rattle.model.specs.Figures.{tree_gives}
use Rattle.problem.proofs.Examples.{example, example_formed}
use Rattle.answer.specs.StatedAnswers.{no_values, its_cost, its_bound, held, stated}
use Rattle.docket.specs.declared.Docket.{Docket}
use Rattle.docket.specs.declared.held.HeldBound.TheVariants as bound
use Rattle.docket.specs.Docket.{fresh_docket}
use Rattle.docket.specs.Verdicts.{Verdict, problem, tree, known_at_end}
use Rattle.docket.specs.Texts.{Is, Are, no_more, then}
use Rattle.docket.specs.Lodging.{lodge_of}
use Rattle.docket.specs.Demand3.{docket_after, answers_to, answers_due}
use Rattle.docket.specs.Specimens.{listed_problem, listed_texts, last_of, specimens, Answered}
use Rattle.docket.proofs.OneVerdict.{verdict_of}
use Rattle.docket.proofs.ListVerdicts.{fine_after, are_verdicts}
use Rattle.docket.proofs.Reached.{docket_of}
use Rattle.docket.proofs.Lists.{lodges}
use Rattle.docket.proofs.Specimens.{rows, figures, judged_as}
use Rattle.docket.proofs.SpecimenTexts.{by_seven, is_listed_problem, is_listed_schedule, is_listed_tree, is_lone_leaf, is_lone_short, is_counted_tree, is_crowded_tree, is_lone_crowd, is_count_twice, is_ramp_tree, is_stuck_ramp, is_empty, is_early, schedules_judged, units_judged, problems_judged, alone_judged}

-- ---- answers by what the texts are

answers_by : {texts : List (List ℕ)} {vs : List Verdict} → Are none texts vs → map stated (answers_to lodge_of fresh_docket texts) ≡ answers_due [] vs
answers_by {texts} {vs} are = (lodges none [] (refl, refl) texts).answers_are ∙ ap (answers_due []) (are_verdicts none texts vs tt are)

last_by : {texts : List (List ℕ)} {vs : List Verdict} → Are none texts vs
    → last_of (map stated (answers_to lodge_of fresh_docket texts)) ≡ last_of (answers_due [] vs)
last_by are = ap last_of (answers_by are)

-- a text after the listing's problem
then_one : {text : List ℕ} {v : Verdict} → Is (some example) text v
    → last_of (map stated (answers_to lodge_of fresh_docket (listed_problem ∷ text ∷ []))) ≡ last_of (answers_due [] (problem example ∷ v ∷ []))
then_one i = last_by (then is_listed_problem (then i no_more))

then_judged : (text : List ℕ) {v : Verdict} → verdict_of (some example) text ≡ v
    → last_of (map stated (answers_to lodge_of fresh_docket (listed_problem ∷ text ∷ []))) ≡ last_of (answers_due [] (problem example ∷ v ∷ []))
then_judged text {v} e = then_one (judged_as (some example) example_formed text v e)

-- a text in a fresh docket
first_judged : (text : List ℕ) {v : Verdict} → verdict_of none text ≡ v → last_of (map stated (answers_to lodge_of fresh_docket (text ∷ []))) ≡ last_of (answers_due [] (v ∷ []))
first_judged text {v} e = last_by (then (judged_as none tt text v e) no_more)

-- a problem and a text after it, both judged
both_judged : {P : Instance} (first text : List ℕ) {v : Verdict} → verdict_of none first ≡ problem P → verdict_of (some P) text ≡ v
    → last_of (map stated (answers_to lodge_of fresh_docket (first ∷ text ∷ []))) ≡ last_of (answers_due [] (problem P ∷ v ∷ []))
both_judged {P} first text {v} e f =
    let i : Is none first (problem P) = judged_as none tt first (problem P) e in
    last_by (then i (then (judged_as (some P) (fine_after none first (problem P) tt i) text v f) no_more))

-- ---- every marked specimen, in the order of the list

infixr 20 ◌also◌
abbrev ◌also◌ : {A B : Type 0} → A → B → A × B
a also b = (a, b)

pub specimens_answered : All (Answered lodge_of) specimens
unfolding specimens
specimens_answered =
    last_by (then is_empty no_more)
    also last_by (then is_early no_more)
    also then_one is_listed_schedule
    also then_judged _ schedules_judged.0
    also then_judged _ schedules_judged.1
    also then_judged _ schedules_judged.2
    also then_judged _ schedules_judged.3
    also then_one is_listed_tree
    also then_one is_lone_leaf
    also last_by (then is_listed_problem (then is_listed_tree (then is_lone_leaf no_more)))
    also then_one is_lone_short
    also both_judged _ _ problems_judged.0 alone_judged.0
    also both_judged _ _ problems_judged.1 alone_judged.1
    also both_judged _ _ problems_judged.2 alone_judged.2
    also both_judged _ _ problems_judged.2 alone_judged.3
    also then_judged _ schedules_judged.4
    also then_judged _ schedules_judged.5
    also first_judged _ units_judged.0
    also first_judged _ units_judged.1
    also first_judged _ units_judged.2
    also then_one is_counted_tree
    also then_one is_crowded_tree
    also then_one is_lone_crowd
    also then_one is_count_twice
    also then_one is_ramp_tree
    also then_one is_stuck_ramp
    also tt

-- ---- the listing: its three answers, and what its report then shows, 1980 by 7 and 1980 by 3

listed_are : Are none listed_texts (problem example ∷ by_seven 1980 (rows 60 80 0 20) ∷ tree (figures 3 1980 1 2) ∷ [])
listed_are = then is_listed_problem (then is_listed_schedule (then is_listed_tree no_more))

pub listing_answers : map stated (answers_to lodge_of fresh_docket listed_texts)
    ≡ held no_values ∷ held (its_cost 1980) ∷ held (its_bound (tree_gives (number (pos 1980)) 1 2)) ∷ []
listing_answers = answers_by listed_are

pub listing_held : (docket_after lodge_of fresh_docket listed_texts).held
    ≡ record { cost = Some (record { cost = 1980; writer = 7 }); bound = bound.Number (record { value = pos 1980; writer = 3 }) }
listing_held =
    ap (λ (d : Docket). d.held) (lodges none [] (refl, refl) listed_texts).docket_is
    ∙ ap (λ (vs : List Verdict). (docket_of (known_at_end none vs) vs).held) (are_verdicts none listed_texts _ tt listed_are)
