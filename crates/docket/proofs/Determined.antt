-- Demand 3 leaves nothing open: what the texts of a list are is one list of verdicts, of a list only one member is the first of the best, and an answer
-- is known by what it states. So two ways of lodging that both meet it give the same answers and the same docket after every list.
use Rattle.std.specs.Prelude.{None, Some}
use mathlib.Core.Path.{◌≡◌, refl, sym, ap, subst, ◌∙◌}
use mathlib.Core.Bool.{Bool}
use mathlib.Core.List.Memᴰ
use mathlib.Core.List.{List, [], ◌∷◌, map, Memᴰ, flatten}
use mathlib.Core.Option.{Option, none, some}
use Prim.Native.Nat.{ℕ}
use native.Mathlib.Omega.{arith}
use Rattle.model.specs.Instance.{Instance}
use Rattle.model.specs.Held.{pad}
use Rattle.model.specs.Figures.{Bound}
use Rattle.std.specs.Prelude.{None as never, Some as number}
use Rattle.model.specs.Best.{First}
use Rattle.model.proofs.Lists.{held_least, held_highest}
use Rattle.tree.specs.Acceptance.{Bounded}
use Rattle.docket.specs.declared.Docket.{Docket}
use Rattle.docket.specs.declared.held.HeldBound.{HeldBound}
use Rattle.docket.specs.declared.held.HeldBound.TheVariants as bound
use Rattle.answer.specs.declared.Answer.{Answer}
use Rattle.answer.specs.declared.Answer.TheVariants.{Refused, TextHeld, ScheduleHeld, SchedulePassed, TreeHeld, TreePassed}
use Rattle.docket.specs.Docket.{HeldCost, fresh_docket}
use Rattle.answer.specs.StatedAnswers as answers
use Rattle.answer.specs.StatedAnswers.{no_values, its_cost, its_bound, Stated, stated}
use Rattle.docket.specs.Verdicts.{Costed, Verdict, schedules, trees, known_at_end}
use Rattle.docket.specs.Texts.{Are}
use Rattle.docket.specs.Lodging.{lodge_of}
use Rattle.docket.specs.Demand3.{reached, answers_to, answers_due, CostHeld, HoldsBound, BoundHeld, Holding, Lodging, Reporting, Writing, Demand3}
use Rattle.docket.proofs.ListVerdicts.{one_list}
use Rattle.docket.proofs.BestSoFar.{first_mem, one_first, cheaper_trans, cheaper_weak, raises_trans, raises_weak}
use Rattle.docket.proofs.Reached.{by_cost, by_bound}
use Rattle.docket.proofs.Demand3.{demand3}

-- ---- an answer is known by what it states

-- the answer with these values
answer_of : Stated → Answer
answer_of (answers.refused n l u t) = Refused (record { number = n; line = l; unit = u; period = t })
answer_of (answers.held no_values) = TextHeld
answer_of (answers.held (its_cost c)) = ScheduleHeld c
answer_of (answers.held (its_bound F)) = TreeHeld F
answer_of (answers.passed no_values) = TextHeld
answer_of (answers.passed (its_cost c)) = SchedulePassed c
answer_of (answers.passed (its_bound F)) = TreePassed F

answer_back : (a : Answer) → answer_of (stated a) ≡ a
unfolding answer_of
answer_back (Refused r) = refl
answer_back TextHeld = refl
answer_back (ScheduleHeld c) = refl
answer_back (SchedulePassed c) = refl
answer_back (TreeHeld F) = refl
answer_back (TreePassed F) = refl

answers_back : (l : List Answer) → map answer_of (map stated l) ≡ l
answers_back [] = refl
answers_back (a ∷ l) =
    ap (λ (x : Answer). x ∷ map answer_of (map stated l)) (answer_back a) ∙ ap (λ (k : List Answer). a ∷ k) (answers_back l)

-- ---- what is held is one thing

pub no_first : {A : Type 0} (better : A → A → Bool) (h : A) (l : List A) → First better h l → l ≡ [] → ⊥
no_first better h l f e = Memᴰ.not-nil (subst (λ (k : List _). Memᴰ h k) e (first_mem better h l f))

module _ (P : Instance) where
  cost_one : (l : List Costed) (c c' : HeldCost) (rows rows' : List ℕ) → CostHeld P l c rows → CostHeld P l c' rows' → (c ≡ c') × (rows ≡ rows')
  cost_one l None None rows rows' p q = (refl, p.1 ∙ sym q.1)
  cost_one l None (Some n) rows rows' p q = absurd (no_first by_cost q.best l q.first p.0)
  cost_one l (Some n) None rows rows' p q = absurd (no_first by_cost p.best l p.first q.0)
  cost_one l (Some n) (Some n') rows rows' p q =
      let e : p.best ≡ q.best =
      one_first by_cost (cheaper_trans (λ (x : Costed). x.cost)) (cheaper_weak (λ (x : Costed). x.cost)) (held_least (λ (x : Costed). x.cost)) p.best q.best l p.first q.first in
      let c : n.cost ≡ n'.cost = p.held_cost ∙ ap (λ (x : Costed). x.cost) e ∙ sym q.held_cost in
      let w : n.writer ≡ n'.writer = p.held_writer ∙ ap (λ (x : Costed). x.writer) e ∙ sym q.held_writer in
      ((λ i. Some (record { cost = c i; writer = w i })), p.held_rows ∙ ap (λ (x : Costed). pad 0 1536 (flatten x.rows)) e ∙ sym q.held_rows)

  same_bound : (l : List Bounded) (b b' : Bound) (w w' : ℕ) → HoldsBound l b w → HoldsBound l b' w' → (b ≡ b') × (w ≡ w')
  same_bound l b b' w w' p q =
      let e : p.best ≡ q.best =
      one_first by_bound (raises_trans (λ (x : Bounded). x.figures.bound)) (raises_weak (λ (x : Bounded). x.figures.bound)) (held_highest (λ (x : Bounded). x.figures.bound)) p.best q.best l p.first q.first in
      (p.held_bound ∙ ap (λ (x : Bounded). x.figures.bound) e ∙ sym q.held_bound, p.held_writer ∙ ap (λ (x : Bounded). x.writer) e ∙ sym q.held_writer)

  bound_one : (l : List Bounded) (b b' : HeldBound) → BoundHeld P l b → BoundHeld P l b' → b ≡ b'
  bound_one l bound.Nothing bound.Nothing p q = refl
  bound_one l bound.Nothing (bound.Number n) p q = absurd (no_first by_bound q.0.best l q.0.first p)
  bound_one l bound.Nothing (bound.Never n) p q = absurd (no_first by_bound q.0.best l q.0.first p)
  bound_one l (bound.Number n) bound.Nothing p q = absurd (no_first by_bound p.0.best l p.0.first q)
  bound_one l (bound.Never n) bound.Nothing p q = absurd (no_first by_bound p.0.best l p.0.first q)
  bound_one l (bound.Number n) (bound.Number n') p q =
      let e = same_bound l (number n.value) (number n'.value) n.writer n'.writer p.0 q.0 in
      let b : number n.value ≡ number n'.value = e.0 in
      let v : n.value ≡ n'.value = cc in
      λ i. bound.Number (record { value = v i; writer = e.1 i })
  bound_one l (bound.Number n) (bound.Never n') p q =
      let e = same_bound l (number n.value) never n.writer n'.writer p.0 q.0 in
      let b : number n.value ≡ never = e.0 in
      absurd (let z : ◌≡◌ {A = ℕ} 0 1 = cc in omega arith)
  bound_one l (bound.Never n) (bound.Number n') p q =
      let e = same_bound l never (number n'.value) n.writer n'.writer p.0 q.0 in
      let b : never ≡ number n'.value = e.0 in
      absurd (let z : ◌≡◌ {A = ℕ} 0 1 = cc in omega arith)
  bound_one l (bound.Never n) (bound.Never n') p q =
      let e = same_bound l never never n.writer n'.writer p.0 q.0 in
      λ i. bound.Never (record { writer = e.1 i })

pub holding_one : (o : Option Instance) (vs : List Verdict) (d d' : Docket) → Holding o vs d → Holding o vs d' → d ≡ d'
holding_one none vs d d' p q = p ∙ sym q
holding_one (some P) vs d d' p q =
    let k = p.known ∙ sym q.known in
    let r = p.problem_is ∙ sym q.problem_is in
    let c = cost_one P (schedules vs) d.held.cost d'.held.cost d.rows d'.rows p.cost_held q.cost_held in
    let b = bound_one P (trees vs) d.held.bound d'.held.bound p.bound_held q.bound_held in
    λ i. record { known = k i; problem = r i; held = record { cost = c.0 i; bound = b i }; rows = c.1 i }

-- ---- what holds after a list, by what its texts are

module _ (lodge : Lodging) {report : Reporting} {buffer : Writing} (D : Demand3 lodge report buffer) (texts : List (List ℕ)) (vs : List Verdict) (are : Are none texts vs) where
  pub same_verdicts : (D texts).verdicts ≡ vs
  same_verdicts = one_list none texts (D texts).verdicts vs tt (D texts).texts_are are

  pub answers_are_due : map stated (answers_to lodge fresh_docket texts) ≡ answers_due [] vs
  answers_are_due = subst (λ (us : List Verdict). map stated (answers_to lodge fresh_docket texts) ≡ answers_due [] us) same_verdicts (D texts).answers_are

  pub holds_then : Holding (known_at_end none vs) vs (reached lodge texts)
  holds_then = subst (λ (us : List Verdict). Holding (known_at_end none us) us (reached lodge texts)) same_verdicts (D texts).holds

-- any two that meet demand 3 answer and hold the same after every list
module _ (lodge lodge' : Lodging) {report report' : Reporting} {buffer buffer' : Writing} (D : Demand3 lodge report buffer) (D' : Demand3 lodge' report' buffer')
    (texts : List (List ℕ)) where
  pub same_answers : answers_to lodge fresh_docket texts ≡ answers_to lodge' fresh_docket texts
  same_answers =
      sym (answers_back (answers_to lodge fresh_docket texts))
      ∙ ap (map answer_of) (answers_are_due lodge D texts (D' texts).verdicts (D' texts).texts_are ∙ sym (D' texts).answers_are)
      ∙ answers_back (answers_to lodge' fresh_docket texts)

  pub same_docket : reached lodge texts ≡ reached lodge' texts
  same_docket =
      holding_one (known_at_end none (D' texts).verdicts) (D' texts).verdicts (reached lodge texts) (reached lodge' texts)
      (holds_then lodge D texts (D' texts).verdicts (D' texts).texts_are) (D' texts).holds

-- so what meets it lodges as lodge_of does, from a fresh docket on
pub only_lodging : (lodge : Lodging) {report : Reporting} {buffer : Writing} → Demand3 lodge report buffer → (texts : List (List ℕ))
    → (answers_to lodge fresh_docket texts ≡ answers_to lodge_of fresh_docket texts) × (reached lodge texts ≡ reached lodge_of texts)
only_lodging lodge D texts = (same_answers lodge lodge_of D demand3 texts, same_docket lodge lodge_of D demand3 texts)
