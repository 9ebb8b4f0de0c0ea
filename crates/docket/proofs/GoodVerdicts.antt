-- What the verdicts of a list promise: an accepted schedule meets the rules and its figure is its cost; an accepted tree's leaves hold and its
-- bound is the tree's; before an accepted problem nothing but refusals. Each is read off the way in which a text is what it is.
use mathlib.Core.Path.{◌≡◌, refl, sym, ap, subst, ◌∙◌}
use mathlib.Core.List.Memᴰ
use mathlib.Core.List.{List, [], ◌∷◌, ◌++◌, Memᴰ}
use mathlib.Core.Option.{Option, none, some}
use mathlib.Core.Logic.{◌⊎◌, inl, inr}
use Prim.Native.Nat.{ℕ}
use Rattle.model.specs.Instance.{Instance}
use Rattle.model.specs.Ranges.{WellFormed, GoodWriter, All}
use Rattle.model.specs.Rules.{Meets}
use Rattle.model.specs.Cost as model
use Rattle.model.specs.Above.{root}
use Rattle.model.specs.Tree as model_tree
use Rattle.model.specs.Tree.{Tree, Limits, Holds}
use Rattle.refusal.specs.declared.Refusal.{Refusal}
use Rattle.tree.specs.Acceptance.{Bounded}
use Rattle.docket.specs.Verdicts.{Costed, Verdict, refused, problem, schedule, tree, schedules, trees, known_after}
use Rattle.docket.specs.Texts.{Is, too_long, no_kind, second_problem, schedule_early, tree_early, problem_refused, a_problem, schedule_refused, a_schedule, tree_refused, a_tree}

pub record GoodSchedule (P : Instance) (s : Costed) : Type 0 where
  pub meets : Meets P s.rows
  pub cost_is : s.cost ≡ model.cost P s.rows
  pub writer_in : GoodWriter s.writer

pub record GoodTree (P : Instance) (F : Bounded) : Type 0 where
  pub its : Tree
  pub within : Limits P root 0 its
  pub holds : Holds P root its
  pub bound_is : F.figures.bound ≡ model_tree.bound P root its
  pub writer_in : GoodWriter F.writer

-- what a verdict can be, under the problem that the texts before gave
pub data Possible : Option Instance → Verdict → Type 0 where
  any_refused : {o : Option Instance} {r : Refusal} → Possible o (refused r)
  first_problem : {P : Instance} → WellFormed P → Possible none (problem P)
  good_schedule : {P : Instance} {s : Costed} → GoodSchedule P s → Possible (some P) (schedule s)
  good_tree : {P : Instance} {F : Bounded} → GoodTree P F → Possible (some P) (tree F)

pub possible : (o : Option Instance) (text : List ℕ) (v : Verdict) → Is o text v → Possible o v
possible o text v (too_long h) = any_refused
possible o text v (no_kind h p s t) = any_refused
possible o text v (second_problem h b) = any_refused
possible o text v (schedule_early h b) = any_refused
possible o text v (tree_early h b) = any_refused
possible o text v (problem_refused n l h b r) = any_refused
possible o text v (a_problem P h e W) = first_problem W
possible o text v (schedule_refused r h b s) = any_refused
possible o text v (a_schedule w s h e ok rows meets) = good_schedule (record { meets = meets; cost_is = refl; writer_in = ok })
possible o text v (tree_refused n l h b r) = any_refused
possible o text v (a_tree w t h e ok within holds) = good_tree (record { its = t; within = within; holds = holds; bound_is = refl; writer_in = ok })

-- ---- lists of verdicts

pub schedules_both : (us vs : List Verdict) → schedules (us ++ vs) ≡ schedules us ++ schedules vs
schedules_both [] vs = refl
schedules_both (refused r ∷ us) vs = schedules_both us vs
schedules_both (problem P ∷ us) vs = schedules_both us vs
schedules_both (schedule s ∷ us) vs = ap (λ (l : List Costed). s ∷ l) (schedules_both us vs)
schedules_both (tree F ∷ us) vs = schedules_both us vs

pub trees_both : (us vs : List Verdict) → trees (us ++ vs) ≡ trees us ++ trees vs
trees_both [] vs = refl
trees_both (refused r ∷ us) vs = trees_both us vs
trees_both (problem P ∷ us) vs = trees_both us vs
trees_both (schedule s ∷ us) vs = trees_both us vs
trees_both (tree F ∷ us) vs = ap (λ (l : List Bounded). F ∷ l) (trees_both us vs)

module _ {A : Type 0} (R : A → Type 0) where
  all_both : (a b : List A) → All R a → All R b → All R (a ++ b)
  all_both [] b h k = k
  all_both (x ∷ a) b h k = (h.0, all_both a b h.1 k)

  pub all_mem : (l : List A) → All R l → (x : A) → Memᴰ x l → R x
  all_mem [] h x m = absurd (Memᴰ.not-nil m)
  all_mem (y ∷ l) h x m = go (Memᴰ.cases_cons m) (λ k. all_mem l h.1 x k)
    where
      go : (x ≡ y) ⊎ Memᴰ x l → (Memᴰ x l → R x) → R x
      go (inl e) ih = subst R (sym e) h.0
      go (inr k) ih = ih k

-- what all verdicts so far promise
abbrev pub Proper : Option Instance → List Verdict → Type 0
Proper none past = (schedules past ≡ []) × (trees past ≡ [])
Proper (some P) past = WellFormed P × (All (GoodSchedule P) (schedules past) × All (GoodTree P) (trees past))

abbrev one : Verdict → List Verdict
one v = v ∷ []

module _ (past : List Verdict) (v : Verdict) where
  no_schedules : schedules past ≡ [] → schedules (one v) ≡ [] → schedules (past ++ one v) ≡ []
  no_schedules e f = schedules_both past (one v) ∙ (λ i. e i ++ f i)

  no_trees : trees past ≡ [] → trees (one v) ≡ [] → trees (past ++ one v) ≡ []
  no_trees e f = trees_both past (one v) ∙ (λ i. e i ++ f i)

  module _ (P : Instance) where
    more_schedules : All (GoodSchedule P) (schedules past) → All (GoodSchedule P) (schedules (one v)) → All (GoodSchedule P) (schedules (past ++ one v))
    more_schedules h k = subst (All (GoodSchedule P)) (sym (schedules_both past (one v))) (all_both (GoodSchedule P) (schedules past) (schedules (one v)) h k)

    more_trees : All (GoodTree P) (trees past) → All (GoodTree P) (trees (one v)) → All (GoodTree P) (trees (past ++ one v))
    more_trees h k = subst (All (GoodTree P)) (sym (trees_both past (one v))) (all_both (GoodTree P) (trees past) (trees (one v)) h k)

    under : Proper (some P) past → All (GoodSchedule P) (schedules (one v)) → All (GoodTree P) (trees (one v)) → Proper (some P) (past ++ one v)
    under p h k = (p.0, (more_schedules p.1.0 h, more_trees p.1.1 k))

nil_all : {A : Type 0} (R : A → Type 0) (l : List A) → l ≡ [] → All R l
nil_all R l e = subst (All R) (sym e) tt

pub proper_after : (o : Option Instance) (past : List Verdict) (v : Verdict) → Proper o past → Possible o v → Proper (known_after o v) (past ++ (v ∷ []))
proper_after none past v p (any_refused {r = r}) = (no_schedules past (refused r) p.0 refl, no_trees past (refused r) p.1 refl)
proper_after none past v p (first_problem {P = P} W) =
    (W, (nil_all (GoodSchedule P) _ (no_schedules past (problem P) p.0 refl), nil_all (GoodTree P) _ (no_trees past (problem P) p.1 refl)))
proper_after (some P) past v p (any_refused {r = r}) = under past (refused r) P p tt tt
proper_after (some P) past v p (good_schedule {s = s} g) = under past (schedule s) P p (g, tt) tt
proper_after (some P) past v p (good_tree {F = F} g) = under past (tree F) P p tt (g, tt)
