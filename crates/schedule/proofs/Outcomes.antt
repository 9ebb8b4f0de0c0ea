-- The whole answer both ways: a text is accepted exactly where it renders a writer and rows in range that meet the rules, and refused
-- exactly by the number that meets it.
use Prim.Native.Nat.{ℕ, ◌<◌}
use native.Mathlib.Omega.{arith}
use mathlib.Core.Path.{◌≡◌, refl, sym, ap, subst, ◌∙◌}
use mathlib.Core.Logic.{◌↔◌}
use mathlib.Core.List.{List}
use mathlib.Core.Option.{Option, none, some}
use Rattle.model.specs.Instance.{Instance, Schedule}
use Rattle.model.specs.Ranges.{WellFormed}
use Rattle.model.specs.Cost.{cost}
use Rattle.model.specs.Breach.{Breach, first_breach}
use Rattle.model.specs.Broken.{Broken, limits, demand, spare, updown, ramps, midnight}
use Rattle.model.proofs.Judging.{judge_none, judge_some}
use Rattle.refusal.specs.declared.Refusal.{Refusal}
use Rattle.refusal.specs.Refusals.{refusal_of, carries_line, carries_unit, carries_period, line_refusal}
use Rattle.text.specs.Course.{Judged, refused_at, accepted}
use Rattle.schedule.specs.Course.{schedule_judged}
use Rattle.schedule.specs.ReadAnswers.{IsSchedule, Outcome, refused_by, accepted_as, by_rules, schedule_outcome}
use Rattle.schedule.specs.Refusals.{RefusedAt, Written, written}
use Rattle.schedule.specs.Acceptance.{rule_refusal, Accepts, AcceptsSome, BreaksFirst, RefusedFor, by_line, by_rule}
use Rattle.schedule.proofs.Wholes.{judged_is}
use Rattle.schedule.proofs.LinesRefused as lines
use Rattle.schedule.proofs.LinesRefused.{refused_carries}

-- ---- what a broken rule's number carries

module _ (P : Instance) (s : Schedule) where
  breach_carries : (b : Breach) → Broken P s b → refusal_of b.number 0 b.unit b.period ≡ rule_refusal b
  unfolding refusal_of carries_line carries_unit carries_period
  breach_carries b (limits u t h k) = refl
  breach_carries b (demand t h k) = refl
  breach_carries b (spare t h k) = refl
  breach_carries b (updown u t h k) = refl
  breach_carries b (ramps u t h k) = refl
  breach_carries b (midnight u h k) = refl

  breach_period : (b : Breach) → Broken P s b → 0 < b.period
  breach_period b (limits u t h k) = omega arith
  breach_period b (demand t h k) = omega arith
  breach_period b (spare t h k) = omega arith
  breach_period b (updown u t h k) = omega arith
  breach_period b (ramps u t h k) = omega arith
  breach_period b (midnight u h k) = omega arith

-- ---- the answer, by what the lines and the rules are found to be

module _ (P : Instance) (text : List ℕ) where
  outcome_accepted : (v : Written) → schedule_judged P text ≡ accepted v → schedule_outcome P text ≡ by_rules P v (first_breach P v.rows)
  unfolding schedule_outcome
  outcome_accepted v e = rw e refl

  outcome_refused : (n l : ℕ) → schedule_judged P text ≡ refused_at n l → schedule_outcome P text ≡ refused_by (refusal_of n l 0 0)
  unfolding schedule_outcome
  outcome_refused n l e = rw e refl

  -- what a text is found to be, by the lines and then by the rules
  pub data OutcomeFound : Outcome → Type 0 where
    at_a_line : (n l : ℕ) → schedule_judged P text ≡ refused_at n l → OutcomeFound (refused_by (refusal_of n l 0 0))
    at_a_rule : (v : Written) (b : Breach) → schedule_judged P text ≡ accepted v → first_breach P v.rows ≡ some b
        → OutcomeFound (refused_by (refusal_of b.number 0 b.unit b.period))
    at_no_fault : (v : Written) → schedule_judged P text ≡ accepted v → first_breach P v.rows ≡ none
        → OutcomeFound (accepted_as v.writer (cost P v.rows) v.rows)

  found : OutcomeFound (schedule_outcome P text)
  found = lines (schedule_judged P text) refl
    where
      rules : (v : Written) (o : Option Breach) → schedule_judged P text ≡ accepted v → first_breach P v.rows ≡ o → OutcomeFound (by_rules P v o)
      rules v none e f = at_no_fault v e f
      rules v (some b) e f = at_a_rule v b e f

      lines : (j : Judged Written) → schedule_judged P text ≡ j → OutcomeFound (schedule_outcome P text)
      lines (refused_at n l) e = subst OutcomeFound (sym (outcome_refused n l e)) (at_a_line n l e)
      lines (accepted v) e = subst OutcomeFound (sym (outcome_accepted v e)) (rules v (first_breach P v.rows) e refl)

-- ---- accepted

module _ (P : Instance) (W : WellFormed P) (text : List ℕ) (is : IsSchedule text) where
  pub accepted_is : (w c : ℕ) (s : Schedule) → (schedule_outcome P text ≡ accepted_as w c s) ↔ Accepts P text w c s
  accepted_is w c s = (λ e. forth (schedule_outcome P text) (found P text) e, back)
    where
      forth : (o : Outcome) → OutcomeFound P text o → o ≡ accepted_as w c s → Accepts P text w c s
      forth o (at_a_line n l e) q = absurd (let z : ◌≡◌ {A = ℕ} 0 1 = cc in omega arith)
      forth o (at_a_rule v b e f) q = absurd (let z : ◌≡◌ {A = ℕ} 0 1 = cc in omega arith)
      forth o (at_no_fault v e f) q =
          let writer : v.writer ≡ w = cc in
          let rows : v.rows ≡ s = cc in
          let price : cost P v.rows ≡ c = cc in
          let p = (judged_is P W text is w s).0 (e ∙ (λ i. accepted (written (writer i) (rows i)))) in
          record {
            renders = p.0;
            writer_in = p.1.0;
            rows_in = p.1.1;
            meets = (judge_none P s p.1.1.0).0 (ap (first_breach P) (sym rows) ∙ f);
            cost_is = sym price ∙ ap (cost P) rows;
          }

      back : Accepts P text w c s → schedule_outcome P text ≡ accepted_as w c s
      back a =
          let e = (judged_is P W text is w s).1 (a.renders, (a.writer_in, a.rows_in)) in
          outcome_accepted P text (written w s) e
          ∙ ap (by_rules P (written w s)) ((judge_none P s a.rows_in.0).1 a.meets)
          ∙ ap (λ (x : ℕ). accepted_as w x s) (sym a.cost_is)

  -- ---- refused

  -- the first rule that the rows break
  breach_refuses : (v : Written) (b : Breach) → schedule_judged P text ≡ accepted v → first_breach P v.rows ≡ some b
      → RefusedFor P text (refusal_of b.number 0 b.unit b.period)
  breach_refuses v b e f =
      let p = (judged_is P W text is v.writer v.rows).0 e in
      let q = (judge_some P v.rows b).0 f in
      subst (RefusedFor P text) (sym (breach_carries P v.rows b q.0)) (by_rule b (record {
        writer = v.writer;
        rows = v.rows;
        renders = p.0;
        writer_in = p.1.0;
        rows_in = p.1.1;
        broken = q.0;
        first = q.1;
      }))

  pub refused_is : (r : Refusal) → (schedule_outcome P text ≡ refused_by r) ↔ RefusedFor P text r
  refused_is r = (λ e. forth (schedule_outcome P text) (found P text) r e, back r)
    where
      forth : (o : Outcome) → OutcomeFound P text o → (r : Refusal) → o ≡ refused_by r → RefusedFor P text r
      forth o (at_a_line n l e) r q =
          let k : refusal_of n l 0 0 ≡ r = cc in
          let t = (lines.refused_is P W.periods_in.0 text n l).0 e in
          subst (RefusedFor P text) (sym (refused_carries P W.periods_in.0 text n l t) ∙ k) (by_line n l t)
      forth o (at_a_rule v b e f) r q = let k : refusal_of b.number 0 b.unit b.period ≡ r = cc in subst (RefusedFor P text) k (breach_refuses v b e f)
      forth o (at_no_fault v e f) r q = absurd (let z : ◌≡◌ {A = ℕ} 0 1 = cc in omega arith)

      back : (r : Refusal) → RefusedFor P text r → schedule_outcome P text ≡ refused_by r
      back r (by_line n l t) = outcome_refused P text n l ((lines.refused_is P W.periods_in.0 text n l).1 t) ∙ ap refused_by (refused_carries P W.periods_in.0 text n l t)
      back r (by_rule b t) =
          let e = (judged_is P W text is t.writer t.rows).1 (t.renders, (t.writer_in, t.rows_in)) in
          outcome_accepted P text (written t.writer t.rows) e
          ∙ ap (by_rules P (written t.writer t.rows)) ((judge_some P t.rows b).1 (t.broken, t.first))
          ∙ ap refused_by (breach_carries P t.rows b t.broken)

  -- ---- each kind of refusal by itself

  -- its line is not 0, or its period is not 0
  at_a_place : (r : Refusal) → RefusedFor P text r
      → ((b : Breach) → r ≡ rule_refusal b → BreaksFirst P text b) × ((n l : ℕ) → r ≡ line_refusal n l → RefusedAt P text n l)
  at_a_place r (by_line n l t) = (
    λ b e. absurd (let z : l ≡ 0 = ap (λ (x : Refusal). x.line) e in omega (arith, t.place)),
    λ m k e.
        let p : n ≡ m = ap (λ (x : Refusal). x.number) e in
        let q : l ≡ k = ap (λ (x : Refusal). x.line) e in
        subst (λ (x : ℕ). RefusedAt P text x k) p (subst (RefusedAt P text n) q t),
  )
  at_a_place r (by_rule b t) = (
    λ c e. subst (BreaksFirst P text) (λ i. record { number = (e i).number; unit = (e i).unit; period = (e i).period }) t,
    λ n l e. absurd (let z : b.period ≡ 0 = ap (λ (x : Refusal). x.period) e in omega (arith, breach_period P t.rows b t.broken)),
  )

  -- by 21 to 25, at a unit and a period
  pub refused_rule_is : (b : Breach) → (schedule_outcome P text ≡ refused_by (rule_refusal b)) ↔ BreaksFirst P text b
  refused_rule_is b = (
    λ e. (at_a_place (rule_refusal b) ((refused_is (rule_refusal b)).0 e)).0 b refl,
    λ t. (refused_is (rule_refusal b)).1 (by_rule b t),
  )

  -- by 12, 14 or 13, at a line
  pub refused_line_is : (n l : ℕ) → (schedule_outcome P text ≡ refused_by (line_refusal n l)) ↔ RefusedAt P text n l
  refused_line_is n l = (
    λ e. (at_a_place (line_refusal n l) ((refused_is (line_refusal n l)).0 e)).1 n l refl,
    λ t. (refused_is (line_refusal n l)).1 (by_line n l t),
  )

  -- ---- one or the other

  -- where no refusal meets a text, it is accepted
  pub unrefused_accepted : ((r : Refusal) → RefusedFor P text r → ⊥) → AcceptsSome P text
  unrefused_accepted none_meets = go (schedule_outcome P text) refl
    where
      go : (o : Outcome) → schedule_outcome P text ≡ o → AcceptsSome P text
      go (refused_by r) e = absurd (none_meets r ((refused_is r).0 e))
      go (accepted_as w c s) e = record { writer = w; cost = c; rows = s; accepts = (accepted_is w c s).0 e }

  pub accepted_unrefused : (w c : ℕ) (s : Schedule) → Accepts P text w c s → (r : Refusal) → RefusedFor P text r → ⊥
  accepted_unrefused w c s a r t =
      let e : accepted_as w c s ≡ refused_by r = sym ((accepted_is w c s).1 a) ∙ (refused_is r).1 t in
      let z : ◌≡◌ {A = ℕ} 0 1 = cc in
      omega arith
