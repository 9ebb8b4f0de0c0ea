-- Each wrong way of holding that is written out does what document 01 forbids, so demand 3 does not hold of it, however it reports. Up to the problem they
-- hold what they should, so the docket after one text more is computed.
use Rattle.std.specs.Prelude.{Some}
use mathlib.Core.Path.{◌≡◌, refl, sym, ap, ◌∙◌}
use mathlib.Core.Bool.{true}
use mathlib.Core.List.Memᴰ
use mathlib.Core.List.{List, [], ◌∷◌}
use mathlib.Core.Option.{none, some}
use Prim.Native.Nat.{ℕ}
use native.Mathlib.Omega.{arith}
use lib.IntN.{pos}
use lib.ListN.{get_or}
use Rattle.model.specs.Instance.{Instance, Schedule}
use Rattle.model.specs.Rules.{Meets, output, capacity}
use Rattle.model.specs.Cost.{cost, row_cost}
use Rattle.model.specs.Breach.{first_breach}
use Rattle.model.specs.Held as arrays
use Rattle.model.specs.Held.{view}
use Rattle.model.specs.Best.{FirstLeast}
use Rattle.model.proofs.Held.{view_held}
use Rattle.model.proofs.Integers.{le→nat}
use Rattle.model.proofs.Judging.{judge_none}
use Rattle.judge.specs.Rows.{cut_rows, schedule_of}
use Rattle.problem.proofs.Examples.{example, example_formed}
use Rattle.docket.specs.declared.Docket.{Docket}
use Rattle.docket.specs.declared.Lodged.{Lodged}
use Rattle.docket.specs.declared.held.CostBy.{CostBy}
use Rattle.docket.specs.Docket.{fresh_docket}
use Rattle.docket.specs.Verdicts.{Verdict, problem, schedule, tree}
use Rattle.docket.specs.Texts.{Is}
use Rattle.docket.specs.Lodging.{text_judged, with_problem}
use Rattle.docket.specs.Demand3.{reached, Reporting, Writing, Demand3}
use Rattle.docket.proofs.OneVerdict.{is_verdict}
use Rattle.docket.proofs.Specimens.{problem_text, rows, figures, is_problem, is_cheap, is_tree}
use Rattle.wrong.specs.WrongStates.{SomeList}
use Rattle.wrong.specs.WrongHolding as wrong
use Rattle.wrong.proofs.WrongStates as states
use Rattle.wrong.proofs.ShortLists.{begun_are, cheap, cheap_text, cheap_are, tree_text, tree_are}

-- ---- the docket after the problem and one text more

abbrev begun : Docket
begun = with_problem (arrays.held example)

module _ (h : Docket → Verdict → Lodged) (first : (h fresh_docket (problem example)).docket ≡ begun) (text : List ℕ) (v : Verdict) (is : Is (some example) text v) where
  after_problem : (wrong.holding_by h fresh_docket problem_text).docket ≡ begun
  after_problem = ap (λ (v : Verdict). (h fresh_docket v).docket) (is_verdict none problem_text (problem example) tt is_problem) ∙ first

  judged_is : text_judged true (view (arrays.held example)) text ≡ v
  judged_is = ap (λ (P : Instance). text_judged true P text) (view_held example example_formed) ∙ is_verdict (some example) text v example_formed is

  after_one_more : reached (wrong.holding_by h) (problem_text ∷ text ∷ []) ≡ (h begun v).docket
  after_one_more =
      ap (λ (d : Docket). (wrong.holding_by h d text).docket) after_problem ∙ ap (λ (v : Verdict). (h begun v).docket) judged_is

-- the problem and a schedule, the problem and a tree
abbrev with_cheap : SomeList
with_cheap = record { texts = problem_text ∷ cheap_text ∷ []; verdicts = _; texts_are = cheap_are; P = example; known = refl }

abbrev with_tree : SomeList
with_tree = record { texts = problem_text ∷ tree_text ∷ []; verdicts = _; texts_are = tree_are; P = example; known = refl }

-- ---- another schedule

only_first : FirstLeast (λ x. x.cost) cheap (cheap ∷ [])
only_first = record {
  before = [];
  after = [];
  parts = refl;
  worse = λ y m. absurd (Memᴰ.not-nil m);
  no_better = λ y m. absurd (Memᴰ.not-nil m);
}

pub rows_lost_fails : {report : Reporting} {buffer : Writing} → Demand3 wrong.rows_lost report buffer → ⊥
unfolding arrays.held cut_rows
rows_lost_fails D = states.other_schedule wrong.rows_lost D (record {
  after = with_cheap;
  s = cheap;
  first = only_first;
  other = λ e.
      let f = after_one_more wrong.hold_cost_alone refl cheap_text (schedule cheap) is_cheap in
      let g = sym (ap (λ (d : Docket). schedule_of d.problem d.rows) f) ∙ e.1 in
      let z : ◌≡◌ {A = ℕ} 0 60 = ap (λ (s : Schedule). get_or (get_or s 0 []) 0 0) g in
      omega arith;
})

one_writer_is : (a b : CostBy) → Some a ≡ Some b → a.writer ≡ b.writer
one_writer_is a b e = cc

pub one_writer_fails : {report : Reporting} {buffer : Writing} → Demand3 wrong.one_writer report buffer → ⊥
one_writer_fails D = states.other_schedule wrong.one_writer D (record {
  after = with_cheap;
  s = cheap;
  first = only_first;
  other = λ e.
      let f = after_one_more wrong.hold_by_one refl cheap_text (schedule cheap) is_cheap in
      let g = sym (ap (λ (d : Docket). d.held.cost) f) ∙ e.0 in
      let z : ◌≡◌ {A = ℕ} 1 7 = one_writer_is (record { cost = 1980; writer = 1 }) (record { cost = 1980; writer = 7 }) g in
      omega arith;
})

-- ---- a bound above the truth

cheap_meets : Meets example (rows 60 80 0 20)
unfolding first_breach output capacity
cheap_meets = (judge_none example (rows 60 80 0 20) (refl, (refl, (refl, tt)))).0 refl

cheap_costs : cost example (rows 60 80 0 20) ≡ 1980
unfolding cost row_cost
cheap_costs = refl

pub bound_raised_fails : {report : Reporting} {buffer : Writing} → Demand3 wrong.bound_raised report buffer → ⊥
bound_raised_fails D = states.number_untrue wrong.bound_raised D (record {
  after = with_tree;
  by = record { value = pos 1981; writer = 3 };
  number_held = ap (λ (d : Docket). d.held.bound) (after_one_more wrong.hold_more refl tree_text (tree (figures 3 1980 1 2)) is_tree);
  rows = rows 60 80 0 20;
  meets = cheap_meets;
  above = λ h. omega (arith, le→nat (pos 1981) (pos (cost example (rows 60 80 0 20))) h, cheap_costs);
})

pub never_claimed_fails : {report : Reporting} {buffer : Writing} → Demand3 wrong.never_claimed report buffer → ⊥
never_claimed_fails D = states.never_untrue wrong.never_claimed D (record {
  after = with_tree;
  by = record { writer = 3 };
  never_held = ap (λ (d : Docket). d.held.bound) (after_one_more wrong.hold_never refl tree_text (tree (figures 3 1980 1 2)) is_tree);
  rows = rows 60 80 0 20;
  meets = cheap_meets;
})

-- ---- another problem

pub demand_lost_fails : {report : Reporting} {buffer : Writing} → Demand3 wrong.demand_lost report buffer → ⊥
unfolding arrays.held view
demand_lost_fails D = states.other_problem wrong.demand_lost D (record {
  after = record { texts = problem_text ∷ []; verdicts = _; texts_are = begun_are; P = example; known = refl };
  other = λ e.
      let f = ap (λ (v : Verdict). (wrong.hold_no_demand fresh_docket v).docket) (is_verdict none problem_text (problem example) tt is_problem) in
      let g = sym (ap (λ (d : Docket). view d.problem) f) ∙ e in
      let z : ◌≡◌ {A = ℕ} 0 60 = ap (λ (P : Instance). get_or P.demand 0 0) g in
      omega arith;
})
