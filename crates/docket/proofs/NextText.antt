-- Demand 3 read text by text: after any list the answer to one text more is the one due to it, and the docket then holds what the longer list determines.
use mathlib.Core.Path.{◌≡◌, refl, sym, ap, subst, ◌∙◌}
use mathlib.Core.List.{List, [], ◌∷◌, ◌++◌, map, append_assoc, append-nil}
use mathlib.Core.Option.{Option, none, some}
use Prim.Native.Nat.{ℕ}
use Rattle.model.specs.Instance.{Instance}
use Rattle.docket.specs.declared.Docket.{Docket}
use Rattle.docket.specs.declared.Lodged.{Lodged}
use Rattle.docket.specs.Docket.{fresh_docket}
use Rattle.answer.specs.StatedAnswers.{Stated, stated}
use Rattle.docket.specs.Verdicts.{Verdict, known_after, known_at_end}
use Rattle.docket.specs.Texts.{Is, Are, no_more, then}
use Rattle.docket.specs.Demand3.{docket_after, answers_to, answer_due, answers_due, Holding, Lodging, Reporting, Writing, Demand3}
use Rattle.docket.proofs.Determined.{answers_are_due, holds_then}

-- ---- a list and one more

pub are_more : (o : Option Instance) (texts : List (List ℕ)) (vs : List Verdict) (text : List ℕ) (v : Verdict) → Are o texts vs
    → Is (known_at_end o vs) text v
    → Are o (texts ++ (text ∷ [])) (vs ++ (v ∷ []))
are_more o texts vs text v no_more i = then i no_more
are_more o texts vs text v (then {texts = ts} {v = u} {vs = us} j a) i = then j (are_more (known_after o u) ts us text v a i)

module _ (lodge : Docket → List ℕ → Lodged) where
  pub docket_more : (d : Docket) (texts : List (List ℕ)) (text : List ℕ)
      → docket_after lodge d (texts ++ (text ∷ [])) ≡ (lodge (docket_after lodge d texts) text).docket
  docket_more d [] text = refl
  docket_more d (t ∷ ts) text = docket_more (lodge d t).docket ts text

  answers_more : (d : Docket) (texts : List (List ℕ)) (text : List ℕ)
      → map stated (answers_to lodge d (texts ++ (text ∷ [])))
      ≡ map stated (answers_to lodge d texts) ++ (stated (lodge (docket_after lodge d texts) text).answer ∷ [])
  answers_more d [] text = refl
  answers_more d (t ∷ ts) text = ap (λ (l : List Stated). stated (lodge d t).answer ∷ l) (answers_more (lodge d t).docket ts text)

due_more : (past vs : List Verdict) (v : Verdict) → answers_due past (vs ++ (v ∷ [])) ≡ answers_due past vs ++ (answer_due (past ++ vs) v ∷ [])
due_more past [] v = ap (λ (l : List Verdict). answer_due l v ∷ []) (sym (append-nil past))
due_more past (u ∷ us) v =
    ap (λ (l : List Stated). answer_due past u ∷ l)
    (due_more (past ++ (u ∷ [])) us v
    ∙ ap (λ (l : List Verdict). answers_due (past ++ (u ∷ [])) us ++ (answer_due l v ∷ [])) (append_assoc past (u ∷ []) us))

-- the last of a list
last : List Stated → Option Stated
last [] = none
last (x ∷ []) = some x
last (x ∷ y ∷ l) = last (y ∷ l)

last_more : (l : List Stated) (x : Stated) → last (l ++ (x ∷ [])) ≡ some x
unfolding last
last_more [] x = refl
last_more (a ∷ []) x = refl
last_more (a ∷ b ∷ l) x = last_more (b ∷ l) x

module _ (lodge : Lodging) {report : Reporting} {buffer : Writing} (D : Demand3 lodge report buffer) (texts : List (List ℕ)) (vs : List Verdict) (are : Are none texts vs) (text : List ℕ)
    (v : Verdict) (is : Is (known_at_end none vs) text v) where
  -- the answer to a text after a list
  pub answered : stated (lodge (docket_after lodge fresh_docket texts) text).answer ≡ answer_due vs v
  answered =
      let e = answers_are_due lodge D (texts ++ (text ∷ [])) (vs ++ (v ∷ [])) (are_more none texts vs text v are is) in
      let f : some (stated (lodge (docket_after lodge fresh_docket texts) text).answer) ≡ some (answer_due vs v) =
      sym (last_more (map stated (answers_to lodge fresh_docket texts)) (stated (lodge (docket_after lodge fresh_docket texts) text).answer))
      ∙ ap last (sym (answers_more lodge fresh_docket texts text) ∙ e ∙ due_more [] vs v)
      ∙ last_more (answers_due [] vs) (answer_due vs v) in
      cc

  -- and what the docket then holds
  pub holds_next : Holding (known_at_end none (vs ++ (v ∷ []))) (vs ++ (v ∷ [])) (lodge (docket_after lodge fresh_docket texts) text).docket
  holds_next =
      subst (Holding (known_at_end none (vs ++ (v ∷ []))) (vs ++ (v ∷ []))) (docket_more lodge fresh_docket texts text)
      (holds_then lodge D (texts ++ (text ∷ [])) (vs ++ (v ∷ [])) (are_more none texts vs text v are is))
