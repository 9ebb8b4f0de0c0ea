-- A value that is not sound is judged as a fresh docket is: the answer is that of a fresh docket, a text that is held starts from one, and any other
-- leaves the value as it was.
use mathlib.Core.Path.{◌≡◌, refl, sym, ap, subst, ◌∙◌}
use mathlib.Core.Bool.{false}
use mathlib.Core.List.{List}
use Prim.Native.Nat.{ℕ}
use Rattle.model.specs.Held.{view}
use Rattle.docket.specs.declared.Docket.{Docket}
use Rattle.docket.specs.declared.Lodged.{Lodged}
use Rattle.docket.specs.Docket.{fresh_docket, sound}
use Rattle.answer.specs.StatedAnswers.{stated}
use Rattle.docket.specs.Verdicts.{Verdict, refused, problem, schedule, tree}
use Rattle.docket.specs.Lodging.{text_judged, hold, lodge_of}
use Rattle.docket.specs.Demand3.{Unheld}
use Rattle.docket.proofs.HoldingAnswers.{lodge_unsound}

lodge_fresh : (text : List ℕ) → lodge_of fresh_docket text ≡ hold fresh_docket fresh_docket (text_judged false (view fresh_docket.problem) text)
unfolding lodge_of sound
lodge_fresh text = refl

-- only a docket that stays is told apart
same_answer : (d e : Docket) (v : Verdict) → (hold d fresh_docket v).answer ≡ (hold e fresh_docket v).answer
same_answer d e (refused r) = refl
same_answer d e (problem P) = refl
same_answer d e (schedule s) = refl
same_answer d e (tree F) = refl

pub unsound_answer : (d : Docket) (text : List ℕ) → sound d ≡ false → (lodge_of d text).answer ≡ (lodge_of fresh_docket text).answer
unsound_answer d text e =
    ap (λ (l : Lodged). l.answer) (lodge_unsound d text e)
    ∙ same_answer d fresh_docket (text_judged false (view fresh_docket.problem) text)
    ∙ ap (λ (l : Lodged). l.answer) (sym (lodge_fresh text))

held_docket : (d : Docket) (v : Verdict) → (Unheld (stated (hold d fresh_docket v).answer) → ⊥) → (hold d fresh_docket v).docket ≡ (hold fresh_docket fresh_docket v).docket
held_docket d (refused r) n = absurd (n tt)
held_docket d (problem P) n = refl
held_docket d (schedule s) n = refl
held_docket d (tree F) n = refl

pub unsound_held : (d : Docket) (text : List ℕ) → sound d ≡ false → (Unheld (stated (lodge_of d text).answer) → ⊥)
    → (lodge_of d text).docket ≡ (lodge_of fresh_docket text).docket
unsound_held d text e n =
    ap (λ (l : Lodged). l.docket) (lodge_unsound d text e)
    ∙ held_docket d (text_judged false (view fresh_docket.problem) text) (λ u. n (subst (λ (l : Lodged). Unheld (stated l.answer)) (sym (lodge_unsound d text e)) u))
    ∙ ap (λ (l : Lodged). l.docket) (sym (lodge_fresh text))
