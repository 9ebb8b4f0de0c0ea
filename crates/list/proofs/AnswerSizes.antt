-- The line that shows an answer has at most 64 bytes. A text above 1,048,576 bytes is refused by its length alone; of any other a refusal's numbers are
-- small because its line is one of the text's and its unit and period are the problem's, a cost and a bound because they fit, split lines and leaves
-- because each has its line.
use mathlib.Core.Path.{◌≡◌, refl, ap, subst, ◌∙◌}
use mathlib.Core.Bool.{Bool, true, false, cond}
use mathlib.Core.List.{List, [], ◌∷◌, ◌++◌}
use mathlib.Core.Option.{Option, none, some}
use Prim.Native.Nat.{ℕ, zero, suc, ◌+◌, ◌≤◌, ◌<◌}
use native.Mathlib.Omega.{arith}
use native.Mathlib.Decide.{dec_lt}
use lib.Dec.{ltb}
use lib.ListN.{length}
use Rattle.model.specs.declared.generator.Generator.{Generator}
use Rattle.model.specs.Instance.{Instance, Schedule}
use Rattle.model.specs.Ranges.{WellFormed}
use Rattle.model.specs.Broken.{Of, Broken, limits, demand, spare, updown, ramps, midnight}
use Rattle.model.specs.Breach.{Breach}
use Rattle.model.specs.Above.{root}
use Rattle.model.specs.Held.{view, blank_problem}
use Rattle.model.proofs.Valid.{valid_is}
use Rattle.model.proofs.CostSizes.{meets_small, cost_fits}
use Rattle.model.proofs.TreeSizes.{bound_fits}
use Rattle.refusal.specs.declared.Refusal.{Refusal}
use Rattle.refusal.specs.Refusals.{refusal_of, line_refusal}
use Rattle.refusal.proofs.Places.{nothing_high}
use Rattle.problem.proofs.Refusals as problems
use Rattle.schedule.specs.Acceptance.{RefusedFor, by_line, by_rule}
use Rattle.schedule.proofs.LinesRefused as schedules
use Rattle.text.specs.Lines.{Line, later, lines_of, line_at, kind_of}
use Rattle.text.specs.declared.Kind.{Kind}
use Rattle.text.specs.declared.Kind.TheVariants as kind
use Rattle.tree.specs.Rendering as trees
use Rattle.tree.proofs.ReadAnswers as trees_read
use Rattle.answer.specs.declared.Answer.TheVariants.{ScheduleHeld, SchedulePassed, TreeHeld, TreePassed}
use Rattle.answer.specs.StatedAnswers.{its_cost, its_bound, stated}
use Rattle.answer.specs.StatedAnswers as answers
use Rattle.answer.specs.AnswerLines.{answer_line}
use Rattle.answer.proofs.Widths.{Small, SmallValues, line_fits}
use Rattle.docket.specs.declared.Docket.{Docket}
use Rattle.docket.specs.Docket.{fresh_docket, sound}
use Rattle.docket.specs.Verdicts.{Verdict, refused, problem, schedule, tree}
use Rattle.docket.specs.Texts.{Is, too_long, no_kind, second_problem, schedule_early, tree_early, problem_refused, a_problem, schedule_refused, a_schedule, tree_refused, a_tree}
use Rattle.docket.specs.Lodging.{refuse_whole, admit_kind, admit, verdict_by, text_judged, lodged, with_schedule, with_bound, is_less, is_higher, hold, lodge_of}
use Rattle.docket.proofs.OneVerdict.{Fine, verdict_of, verdict_is}
use Rattle.docket.proofs.HoldingAnswers.{sound_valid, lodge_sound, lodge_unsound}
use Rattle.list.proofs.LineCounts.{before_count, tree_count}

-- ---- what each verdict gives

abbrev pub SmallVerdict : Verdict → Type 0
SmallVerdict (refused r) = Small (answers.refused r.number r.line r.unit r.period)
SmallVerdict (problem P) = Unit {0}
SmallVerdict (schedule s) = SmallValues (its_cost s.cost)
SmallVerdict (tree F) = SmallValues (its_bound F.figures)

-- a number that carries its line is one of 11 to 37
number_small : (n l : ℕ) → refusal_of n (suc l) 0 0 ≡ line_refusal n (suc l) → n < 100
number_small n l e = go (dec_lt n 38)
  where
    go : Dec (n < 38) → n < 100
    go (yes h) = omega (arith, h)
    go (no h) =
        let z : 0 ≡ suc l = ap (λ (r : Refusal). r.line) (nothing_high n (suc l) 0 0 (omega (arith, h)) ∙ e) in
        absurd (omega (arith, z))

carried : (n l k : ℕ) → l ≡ 2 + k → refusal_of n l 0 0 ≡ line_refusal n l → n < 100
carried n l k e c = number_small n (suc k) (subst (λ (x : ℕ). refusal_of n x 0 0 ≡ line_refusal n x) (e ∙ two k) c)
  where
    two : (k : ℕ) → 2 + k ≡ suc (suc k)
    two k = omega arith

-- a refusal with its line, no unit and no period
at_line_small : (n l : ℕ) → n < 100 → l < 10_000_000 → Small (answers.refused n l 0 0)
at_line_small n l h k = (h, (k, (omega arith, omega arith)))

-- of a line after some lines of the text
module _ (text : List ℕ) (short : length text ≤ 1048576) where
  line_small : (n l : ℕ) (before after : List Line) → n < 100 → l ≡ 2 + length before → later (lines_of text) ≡ before ++ after
      → Small (answers.refused n l 0 0)
  line_small n l before after h e p =
      at_line_small n l h (omega (arith, e, short, before_count text before after p))

-- ---- a broken rule

unit_within : (u : ℕ) (R : Generator → List ℕ → Type 0) (gs : List Generator) (s : Schedule) → Of u R gs s → u < length gs
unit_within u R [] s o = absurd o
unit_within u R (g ∷ gs) [] o = absurd o
unit_within zero R (g ∷ gs) (r ∷ s) o = omega arith
unit_within (suc u) R (g ∷ gs) (r ∷ s) o = omega (arith, unit_within u R gs s o)

module _ (P : Instance) (W : WellFormed P) (s : Schedule) where
  period_small : (n t : ℕ) → n < 100 → t < P.periods → Small (answers.refused n 0 0 (suc t))
  period_small n t k h = (k, (omega arith, (omega arith, omega (arith, h, W.periods_in.1))))

  unit_small : (n u t : ℕ) (R : Generator → List ℕ → Type 0) → n < 100 → t < P.periods → Of u R P.units s → Small (answers.refused n 0 (suc u) (suc t))
  unit_small n u t R k h o = (k, (omega arith, (omega (arith, unit_within u R P.units s o, W.units_in.1), omega (arith, h, W.periods_in.1))))

  rule_small : (b : Breach) → Broken P s b → Small (answers.refused b.number 0 b.unit b.period)
  rule_small b (limits u t h o) = unit_small 21 u t _ (omega arith) h o
  rule_small b (demand t h k) = period_small 22 t (omega arith) h
  rule_small b (spare t h k) = period_small 23 t (omega arith) h
  rule_small b (updown u t h o) = unit_small 24 u t _ (omega arith) h o
  rule_small b (ramps u t h o) = unit_small 25 u (suc t) _ (omega arith) h o
  rule_small b (midnight u h o) = unit_small 25 u 0 _ (omega arith) h o

-- ---- every verdict

module _ (text : List ℕ) where
  schedule_small : length text ≤ 1048576 → (P : Instance) → WellFormed P → (r : Refusal) → RefusedFor P text r → SmallVerdict (refused r)
  schedule_small short P W r (by_line n l a) = line_small text short n l a.before a.left (carried n l (length a.before) a.place (schedules.refused_carries P W.periods_in.0 text n l a)) a.place a.parts
  schedule_small short P W r (by_rule b a) = rule_small P W a.rows b a.broken

  pub verdict_small : (o : Option Instance) → Fine o → (v : Verdict) → Is o text v → SmallVerdict v
  verdict_small o W v (too_long h) = at_line_small 11 0 (omega arith) (omega arith)
  verdict_small o W v (no_kind h p s t) = at_line_small 12 1 (omega arith) (omega arith)
  verdict_small o W v (second_problem h b) = at_line_small 41 0 (omega arith) (omega arith)
  verdict_small o W v (schedule_early h b) = at_line_small 42 0 (omega arith) (omega arith)
  verdict_small o W v (tree_early h b) = at_line_small 42 0 (omega arith) (omega arith)
  verdict_small o W v (problem_refused n l h b r) =
      line_small text h n l r.before r.left (carried n l (length r.before) r.place (problems.refused_carries n l text r)) r.place r.parts
  verdict_small o W v (a_problem P h e G) = tt
  verdict_small (some P) W v (schedule_refused r h b f) = schedule_small h P W r f
  verdict_small (some P) W v (a_schedule w s h e ok rows meets) = omega (arith, cost_fits P W s (meets_small P W s meets.printed))
  verdict_small (some P) W v (tree_refused n l h b r) =
      line_small text h n l r.before r.left (carried n l (length r.before) r.place (trees_read.refused_carries P text n l r)) r.place r.parts
  verdict_small (some P) W v (a_tree w t h e ok within holds) =
      let k = tree_count w t in
      let m : length text ≡ length (trees.render w t) = ap length e in
      (bound_fits P W root 0 t within, (omega (arith, k, m, h), omega (arith, k, m, h)))

-- ---- the answer that lodging gives to it

answer_small : (was d : Docket) (v : Verdict) → SmallVerdict v → Small (stated (hold was d v).answer)
answer_small was d (refused r) s = s
answer_small was d (problem P) s = tt
answer_small was d (schedule x) s = go (is_less x.cost d.held.cost)
  where
    go : (t : Bool) → Small (stated (cond t (lodged (with_schedule d x) (ScheduleHeld x.cost)) (lodged was (SchedulePassed x.cost))).answer)
    go true = s
    go false = s
answer_small was d (tree F) s = go (is_higher F.figures.bound d.held.bound)
  where
    go : (t : Bool) → Small (stated (cond t (lodged (with_bound d F) (TreeHeld F.figures)) (lodged was (TreePassed F.figures))).answer)
    go true = s
    go false = s

-- where o is the problem that is known
pub verdict_fits : (o : Option Instance) → Fine o → (text : List ℕ) (was d : Docket)
    → length (answer_line (stated (hold was d (verdict_of o text)).answer)) ≤ 64
verdict_fits o W text was d =
    line_fits (stated (hold was d (verdict_of o text)).answer)
    (answer_small was d (verdict_of o text) (verdict_small text o W (verdict_of o text) (verdict_is o W text)))

-- ---- by any docket, whose arrays have the lengths of the struct's

-- where no problem is known none matters
unknown_any : (P Q : Instance) (text : List ℕ) → text_judged false P text ≡ text_judged false Q text
unfolding text_judged admit
unknown_any P Q text = go (ltb 1048576 (length text)) (kind_of (line_at text 0))
  where
    go : (t : Bool) (k : Kind) → verdict_by (cond t (refuse_whole 11 0) (admit_kind k false)) P text ≡ verdict_by (cond t (refuse_whole 11 0) (admit_kind k false)) Q text
    go true k = refl
    go false kind.Unknown = refl
    go false kind.Problem = refl
    go false kind.Schedule = refl
    go false kind.Tree = refl

module _ (d : Docket) (many : length d.problem.demand ≡ 48) (more : length d.problem.spare ≡ 48) (units : length d.problem.generators ≡ 32)
    (text : List ℕ) where
  judged_fits : (known : Bool) → sound d ≡ true → d.known ≡ known → length (answer_line (stated (hold d d (text_judged known (view d.problem) text)).answer)) ≤ 64
  judged_fits true e k =
      let ok = (valid_is d.problem many more units).0 (sound_valid d e k) in
      verdict_fits (some (view d.problem)) ok.well_formed text d d
  judged_fits false e k =
      subst (λ (v : Verdict). length (answer_line (stated (hold d d v).answer)) ≤ 64) (unknown_any (view blank_problem) (view d.problem) text)
      (verdict_fits none tt text d d)

  -- the line for the answer to any text has at most 64 bytes
  pub answer_fits : length (answer_line (stated (lodge_of d text).answer)) ≤ 64
  answer_fits = go (sound d) refl
    where
      go : (t : Bool) → sound d ≡ t → length (answer_line (stated (lodge_of d text).answer)) ≤ 64
      go true e = rw (lodge_sound d text e) (judged_fits d.known e refl)
      go false e = rw (lodge_unsound d text e) (verdict_fits none tt text d fresh_docket)
