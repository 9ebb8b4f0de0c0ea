-- One lodging: the docket is at every moment the one that the verdicts so far determine, and the answer is the one that is due. What is held is the
-- first of the best so far, so that a comparison with it is one with all that came before.
use mathlib.Core.Path.{◌≡◌, refl, sym, ap, ◌∙◌}
use mathlib.Core.Bool.{Bool, true, false, cond}
use mathlib.Core.List.{List, [], ◌∷◌, ◌++◌}
use mathlib.Core.Option.{Option, none, some}
use Prim.Native.Nat.{ℕ}
use lib.Dec.{ltb}
use Rattle.model.specs.Instance.{Instance}
use Rattle.model.specs.Ranges.{every}
use Rattle.model.specs.Held.{view}
use Rattle.model.specs.Figures.{Bound}
use Rattle.std.specs.Prelude.{None as never, Some as number}
use Rattle.model.specs.Best.{higher}
use Rattle.model.proofs.Held.{view_held}
use Rattle.model.proofs.Lists.{take, held_after, held_least, held_highest}
use Rattle.tree.specs.Acceptance.{Bounded}
use Rattle.docket.specs.declared.Docket.{Docket}
use Rattle.answer.specs.declared.Answer.TheVariants.{ScheduleHeld, SchedulePassed, TreeHeld, TreePassed}
use Rattle.docket.specs.Docket.{fresh_docket, sound}
use Rattle.answer.specs.StatedAnswers.{its_cost, its_bound, stated}
use Rattle.docket.specs.Verdicts.{Costed, Verdict, refused, problem, schedule, tree, schedules, trees, known_after}
use Rattle.docket.specs.Lodging.{text_judged, lodged, with_schedule, with_bound, is_less, is_higher, bound_by, hold, lodge_of}
use Rattle.docket.specs.Demand3.{held_if, answer_due}
use Rattle.docket.proofs.OneVerdict.{verdict_of}
use Rattle.docket.proofs.BestSoFar.{beats, held_both, beats_every, cheaper_trans, cheaper_weak, raises_trans, raises_weak}
use Rattle.docket.proofs.GoodVerdicts.{Possible, any_refused, first_problem, good_schedule, good_tree, schedules_both, trees_both, Proper}
use Rattle.docket.proofs.Reached.{by_cost, by_bound, least, highest, cost_kept, bound_kept, docket_under, docket_of, docket_sound}

-- ---- what lodging does in it

lodge_sound : (d : Docket) → sound d ≡ true → (text : List ℕ) → lodge_of d text ≡ hold d d (text_judged d.known (view d.problem) text)
unfolding lodge_of
lodge_sound d e text = rw e refl

pub lodge_is : (o : Option Instance) (past : List Verdict) → Proper o past → (text : List ℕ)
    → lodge_of (docket_of o past) text ≡ hold (docket_of o past) (docket_of o past) (verdict_of o text)
lodge_is none past p text = lodge_sound fresh_docket (docket_sound none past p) text
lodge_is (some P) past p text =
    let d = docket_under P (least past) (highest past) in
    lodge_sound d (docket_sound (some P) past p) text
    ∙ ap (λ (Q : Instance). hold d d (text_judged true Q text)) (view_held P p.0)

-- ---- the docket after it

module _ (P : Instance) where
  keeps_schedule : (c : Option Costed) (b : Option Bounded) (s : Costed)
      → (hold (docket_under P c b) (docket_under P c b) (schedule s)).docket ≡ docket_under P (take by_cost c s) b
  keeps_schedule none b s = refl
  keeps_schedule (some h) b s = go (ltb s.cost h.cost)
    where
      go : (t : Bool) → (cond t (lodged (with_schedule (docket_under P (some h) b) s) (ScheduleHeld s.cost)) (lodged (docket_under P (some h) b) (SchedulePassed s.cost))).docket
          ≡ docket_under P (cond t (some s) (some h)) b
      go true = refl
      go false = refl

is_higher_is : (x y : Bound) (w : ℕ) → is_higher x (bound_by y w) ≡ higher x y
is_higher_is never never w = refl
is_higher_is never (number y) w = refl
is_higher_is (number x) never w = refl
is_higher_is (number x) (number y) w = refl

module _ (P : Instance) where
  keeps_bound : (c : Option Costed) (b : Option Bounded) (F : Bounded)
      → (hold (docket_under P c b) (docket_under P c b) (tree F)).docket ≡ docket_under P c (take by_bound b F)
  keeps_bound c none F = refl
  keeps_bound c (some G) F = rw (is_higher_is F.figures.bound G.figures.bound G.writer) (go (higher F.figures.bound G.figures.bound))
    where
      go : (t : Bool) → (cond t (lodged (with_bound (docket_under P c (some G)) F) (TreeHeld F.figures)) (lodged (docket_under P c (some G)) (TreePassed F.figures))).docket
          ≡ docket_under P c (cond t (some F) (some G))
      go true = refl
      go false = refl

-- ---- one verdict more

module _ (past : List Verdict) (v : Verdict) where
  least_more : least (past ++ (v ∷ [])) ≡ held_after by_cost (least past) (schedules (v ∷ []))
  least_more = ap (held_after by_cost none) (schedules_both past (v ∷ [])) ∙ held_both by_cost none (schedules past) (schedules (v ∷ []))

  highest_more : highest (past ++ (v ∷ [])) ≡ held_after by_bound (highest past) (trees (v ∷ []))
  highest_more = ap (held_after by_bound none) (trees_both past (v ∷ [])) ∙ held_both by_bound none (trees past) (trees (v ∷ []))

  docket_more : (P : Instance)
      → docket_under P (held_after by_cost (least past) (schedules (v ∷ []))) (held_after by_bound (highest past) (trees (v ∷ [])))
      ≡ docket_of (some P) (past ++ (v ∷ []))
  docket_more P i = docket_under P (sym least_more i) (sym highest_more i)

pub docket_next : (o : Option Instance) (past : List Verdict) (v : Verdict) → Proper o past → Possible o v
    → (hold (docket_of o past) (docket_of o past) v).docket ≡ docket_of (known_after o v) (past ++ (v ∷ []))
docket_next none past v p any_refused = refl
docket_next none past v p (first_problem {P = P} W) =
    (λ i. docket_under P (held_after by_cost none (sym p.0 i)) (held_after by_bound none (sym p.1 i))) ∙ docket_more past (problem P) P
docket_next (some P) past v p (any_refused {r = r}) = docket_more past (refused r) P
docket_next (some P) past v p (good_schedule {s = s} g) = keeps_schedule P (least past) (highest past) s ∙ docket_more past (schedule s) P
docket_next (some P) past v p (good_tree {F = F} g) = keeps_bound P (least past) (highest past) F ∙ docket_more past (tree F) P

-- ---- the answer

module _ (d e : Docket) where
  schedule_stated : (t : Bool) (c : ℕ) → stated (cond t (lodged d (ScheduleHeld c)) (lodged e (SchedulePassed c))).answer ≡ held_if t (its_cost c)
  schedule_stated true c = refl
  schedule_stated false c = refl

  tree_stated : (t : Bool) (F : Bounded)
      → stated (cond t (lodged d (TreeHeld F.figures)) (lodged e (TreePassed F.figures))).answer
      ≡ held_if t (its_bound F.figures)
  tree_stated true F = refl
  tree_stated false F = refl

less_beats : (c : Option Costed) (s : Costed) → is_less s.cost (cost_kept c) ≡ beats by_cost c s
less_beats none s = refl
less_beats (some h) s = refl

higher_beats : (b : Option Bounded) (F : Bounded) → is_higher F.figures.bound (bound_kept b) ≡ beats by_bound b F
higher_beats none F = refl
higher_beats (some G) F = is_higher_is F.figures.bound G.figures.bound G.writer

module _ (past : List Verdict) where
  -- less than what is held is less than all before
  less_every : (s : Costed) → is_less s.cost (cost_kept (least past)) ≡ every (by_cost s) (schedules past)
  less_every s =
      less_beats (least past) s
      ∙ beats_every by_cost (cheaper_trans (λ (x : Costed). x.cost)) (cheaper_weak (λ (x : Costed). x.cost)) (held_least (λ (x : Costed). x.cost))
      (least past) (schedules past) (held_least (λ (x : Costed). x.cost) (schedules past)) s

  higher_every : (F : Bounded) → is_higher F.figures.bound (bound_kept (highest past)) ≡ every (by_bound F) (trees past)
  higher_every F =
      higher_beats (highest past) F
      ∙ beats_every by_bound (raises_trans (λ (x : Bounded). x.figures.bound)) (raises_weak (λ (x : Bounded). x.figures.bound)) (held_highest (λ (x : Bounded). x.figures.bound))
      (highest past) (trees past) (held_highest (λ (x : Bounded). x.figures.bound) (trees past)) F

pub answer_is : (o : Option Instance) (past : List Verdict) (v : Verdict) → Possible o v
    → stated (hold (docket_of o past) (docket_of o past) v).answer ≡ answer_due past v
answer_is o past v any_refused = refl
answer_is none past v (first_problem W) = refl
answer_is (some P) past v (good_schedule {s = s} g) =
    schedule_stated (with_schedule (docket_of (some P) past) s) (docket_of (some P) past) (is_less s.cost (cost_kept (least past))) s.cost
    ∙ ap (λ (t : Bool). held_if t (its_cost s.cost)) (less_every past s)
answer_is (some P) past v (good_tree {F = F} g) =
    tree_stated (with_bound (docket_of (some P) past) F) (docket_of (some P) past) (is_higher F.figures.bound (bound_kept (highest past))) F
    ∙ ap (λ (t : Bool). held_if t (its_bound F.figures)) (higher_every past F)
