-- A list of lodgings from a fresh docket: after every text the docket is the one that the verdicts so far determine, and it is sound.
use mathlib.Core.Path.{◌≡◌, refl, sym, ap, ◌∙◌}
use mathlib.Core.Bool.{true}
use mathlib.Core.List.{List, [], ◌∷◌, ◌++◌, map, append_assoc, append-nil}
use mathlib.Core.Option.{Option, none, some}
use Prim.Native.Nat.{ℕ}
use Rattle.model.specs.Instance.{Instance}
use Rattle.docket.specs.declared.Docket.{Docket}
use Rattle.docket.specs.declared.Lodged.{Lodged}
use Rattle.docket.specs.Docket.{fresh_docket, sound}
use Rattle.answer.specs.StatedAnswers.{Stated, stated}
use Rattle.docket.specs.Verdicts.{Verdict, known_after, known_at_end}
use Rattle.docket.specs.Lodging.{lodge_of}
use Rattle.docket.specs.Demand3.{docket_after, answers_to, answer_due, answers_due}
use Rattle.docket.proofs.OneVerdict.{Fine, verdict_of, verdict_is}
use Rattle.docket.proofs.ListVerdicts.{verdicts_of}
use Rattle.docket.proofs.GoodVerdicts.{Possible, possible, Proper, proper_after}
use Rattle.docket.proofs.Reached.{docket_of, docket_sound}
use Rattle.docket.proofs.OneLodging.{lodge_is, docket_next, answer_is}

-- from what the verdicts so far determine to what all verdicts determine
pub record Lodges (o : Option Instance) (past : List Verdict) (texts : List (List ℕ)) : Type 0 where
  pub docket_is : docket_after lodge_of (docket_of o past) texts ≡ docket_of (known_at_end o (verdicts_of o texts)) (past ++ verdicts_of o texts)
  pub answers_are : map stated (answers_to lodge_of (docket_of o past) texts) ≡ answers_due past (verdicts_of o texts)
  pub proper : Proper (known_at_end o (verdicts_of o texts)) (past ++ verdicts_of o texts)

pub proper_fine : (o : Option Instance) (past : List Verdict) → Proper o past → Fine o
proper_fine none past p = tt
proper_fine (some P) past p = p.0

-- one text, then the rest
module _ (o : Option Instance) (past : List Verdict) (p : Proper o past) (text : List ℕ) (texts : List (List ℕ)) where
  can : Possible o (verdict_of o text)
  can = possible o text (verdict_of o text) (verdict_is o (proper_fine o past p) text)

  next : (lodge_of (docket_of o past) text).docket ≡ docket_of (known_after o (verdict_of o text)) (past ++ (verdict_of o text ∷ []))
  next = ap (λ (l : Lodged). l.docket) (lodge_is o past p text) ∙ docket_next o past (verdict_of o text) p can

  answer : stated (lodge_of (docket_of o past) text).answer ≡ answer_due past (verdict_of o text)
  answer = ap (λ (l : Lodged). stated l.answer) (lodge_is o past p text) ∙ answer_is o past (verdict_of o text) can

  one_more : Lodges (known_after o (verdict_of o text)) (past ++ (verdict_of o text ∷ [])) texts → Lodges o past (text ∷ texts)
  one_more r =
      let vs = verdicts_of (known_after o (verdict_of o text)) texts in
      let a : (past ++ (verdict_of o text ∷ [])) ++ vs ≡ past ++ (verdict_of o text ∷ vs) = append_assoc past (verdict_of o text ∷ []) vs in
      record {
        docket_is =
            ap (λ (d : Docket). docket_after lodge_of d texts) next
            ∙ r.docket_is
            ∙ ap (docket_of (known_at_end (known_after o (verdict_of o text)) vs)) a;
        answers_are =
            (λ i. answer i ∷ map stated (answers_to lodge_of (next i) texts))
            ∙ ap (λ (l : List Stated). answer_due past (verdict_of o text) ∷ l) r.answers_are;
        proper = rw (← a) r.proper;
      }

pub lodges : (o : Option Instance) (past : List Verdict) → Proper o past → (texts : List (List ℕ)) → Lodges o past texts
lodges o past p [] = record { docket_is = ap (docket_of o) (sym (append-nil past)); answers_are = refl; proper = rw (append-nil past) p }
lodges o past p (text ∷ texts) =
    one_more o past p text texts (lodges (known_after o (verdict_of o text)) (past ++ (verdict_of o text ∷ []))
    (proper_after o past (verdict_of o text) p (can o past p text texts)) texts)

-- every docket that lodging reaches from a fresh one is sound
pub reached_sound : (texts : List (List ℕ)) → sound (docket_after lodge_of fresh_docket texts) ≡ true
reached_sound texts =
    let r = lodges none [] (refl, refl) texts in
    ap sound r.docket_is ∙ docket_sound (known_at_end none (verdicts_of none texts)) (verdicts_of none texts) r.proper
