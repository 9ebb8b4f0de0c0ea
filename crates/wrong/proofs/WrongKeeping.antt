-- Each way of lodging that answers as it should and leaves something else breaks demand 3, however it reports.
use Rattle.std.specs.Prelude.{Option, Some}
use mathlib.Core.Bool.{cond}
use mathlib.Core.Path.{◌≡◌, sym, ap, subst, ◌∙◌}
use mathlib.Core.List.{List, [], ◌∷◌}
use Prim.Native.Nat.{ℕ}
use native.Mathlib.Omega.{arith}
use Rattle.model.specs.Figures.{Bound}
use Rattle.std.specs.Prelude.{None as never}
use Rattle.docket.specs.declared.Docket.{Docket}
use Rattle.docket.specs.declared.held.CostBy.{CostBy}
use Rattle.docket.specs.declared.held.HeldBound.{HeldBound}
use Rattle.docket.specs.declared.held.HeldBound.TheVariants as bound
use Rattle.answer.specs.declared.Answer.{Answer}
use Rattle.answer.specs.declared.Answer.TheVariants.{Refused, TextHeld, ScheduleHeld, SchedulePassed, TreeHeld, TreePassed}
use Rattle.docket.specs.Docket.{fresh_docket, no_cost, no_bound}
use Rattle.answer.specs.StatedAnswers as answers
use Rattle.answer.specs.StatedAnswers.{stated}
use Rattle.docket.specs.Lodging.{lodged, lodge_of}
use Rattle.docket.specs.Demand3.{docket_after, reached, Unheld, Reporting, Writing, Demand3}
use Rattle.docket.proofs.NextText.{answered}
use Rattle.docket.proofs.Specimens.{problem_text, is_second}
use Rattle.wrong.specs.WrongDockets.{IsBound}
use Rattle.wrong.specs.WrongHolding as wrong
use Rattle.wrong.proofs.ShortLists.{begun_not_fresh, begun, begun_as, begun_are}
use Rattle.wrong.proofs.WrongStates as states

pub keeping_first_fails : {report : Reporting} {buffer : Writing} → Demand3 wrong.keeping_first report buffer → ⊥
keeping_first_fails D = states.keeps_first wrong.keeping_first D (λ texts text by e. stays (reached wrong.keeping_first texts) text by e)
  where
    stays : (d : Docket) (text : List ℕ) (by : CostBy) → d.held.cost ≡ Some by → (wrong.keeping_first d text).docket.held.cost ≡ Some by
    stays d text by e = ap (λ (c : Option CostBy). (cond (no_cost c) (lodge_of d text) (lodged d (lodge_of d text).answer)).docket.held.cost) e ∙ e

pub keeping_first_bound_fails : {report : Reporting} {buffer : Writing} → Demand3 wrong.keeping_first_bound report buffer → ⊥
keeping_first_bound_fails D = states.keeps_first_bound wrong.keeping_first_bound D (λ texts text b i.
    stays (reached wrong.keeping_first_bound texts) text (reached wrong.keeping_first_bound texts).held.bound b i i)
  where
    stays : (d : Docket) (text : List ℕ) (h : HeldBound) (b : Bound) → IsBound h b → IsBound d.held.bound b
        → IsBound (cond (no_bound h) (lodge_of d text) (lodged d (lodge_of d text).answer)).docket.held.bound b
    stays d text bound.Nothing b i j = absurd i
    stays d text (bound.Number by) b i j = j
    stays d text (bound.Never by) b i j = j

-- a second problem is refused, and the docket gone
pub refused_changes_fails : {report : Reporting} {buffer : Writing} → Demand3 wrong.refused_changes report buffer → ⊥
refused_changes_fails D = states.unheld_changes wrong.refused_changes D (record {
  texts = begun;
  text = problem_text;
  unheld = subst Unheld (sym told) tt;
  other = λ e. begun_not_fresh wrong.refused_changes D (gone (lodge_of d problem_text).docket (lodge_of d problem_text).answer told e);
})
  where
    d : Docket
    d = reached wrong.refused_changes begun

    told : stated (lodge_of d problem_text).answer ≡ answers.refused 41 0 0 0
    told = answered wrong.refused_changes D begun begun_as begun_are problem_text _ is_second

    gone : (x : Docket) (a : Answer) → stated a ≡ answers.refused 41 0 0 0 → wrong.left_by x a ≡ d → fresh_docket ≡ d
    gone x (Refused r) e p = p
    gone x TextHeld e p = absurd (let z : ◌≡◌ {A = ℕ} 0 1 = cc in omega arith)
    gone x (ScheduleHeld c) e p = absurd (let z : ◌≡◌ {A = ℕ} 0 1 = cc in omega arith)
    gone x (SchedulePassed c) e p = absurd (let z : ◌≡◌ {A = ℕ} 0 1 = cc in omega arith)
    gone x (TreeHeld f) e p = absurd (let z : ◌≡◌ {A = ℕ} 0 1 = cc in omega arith)
    gone x (TreePassed f) e p = absurd (let z : ◌≡◌ {A = ℕ} 0 1 = cc in omega arith)

-- every bound as never, on any list
pub never_held_fails : {report : Reporting} {buffer : Writing} → Demand3 wrong.never_held report buffer → ⊥
never_held_fails D = states.one_bound_held wrong.never_held D never (λ texts. only_never fresh_docket texts (λ c i. absurd i))
  where
    all_never : (h : HeldBound) (c : Bound) → IsBound (wrong.all_never h) c → c ≡ never
    all_never bound.Nothing c i = absurd i
    all_never (bound.Number by) c i = sym i
    all_never (bound.Never by) c i = sym i

    only_never : (d : Docket) (texts : List (List ℕ)) → ((c : Bound) → IsBound d.held.bound c → c ≡ never)
        → (c : Bound) → IsBound (docket_after wrong.never_held d texts).held.bound c
        → c ≡ never
    only_never d [] h = h
    only_never d (text ∷ texts) h =
        only_never (wrong.never_held d text).docket texts (λ c i. all_never (lodge_of d text).docket.held.bound c i)
