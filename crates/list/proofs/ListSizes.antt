-- The lines of the answers to a list of texts, lodged in turn from a fresh docket: at most 64 bytes for each text.
use mathlib.Core.Path.{refl, sym, subst}
use mathlib.Core.List.{List, [], ◌∷◌, ◌++◌}
use mathlib.Core.Option.{Option, none, some}
use Prim.Native.Nat.{ℕ, ◌*◌, ◌≤◌}
use native.Mathlib.Omega.{arith}
use lib.ListN.{length, length-append}
use Rattle.model.specs.Instance.{Instance}
use Rattle.answer.specs.StatedAnswers.{stated}
use Rattle.answer.specs.AnswerLines.{answer_line}
use Rattle.docket.specs.declared.Docket.{Docket}
use Rattle.docket.specs.declared.Lodged.{Lodged}
use Rattle.docket.specs.Docket.{fresh_docket}
use Rattle.docket.specs.Verdicts.{Verdict, known_after, known_at_end}
use Rattle.docket.specs.Lodging.{lodge_of}
use Rattle.docket.specs.Demand3.{docket_after, answers_to}
use Rattle.docket.proofs.OneVerdict.{Fine, verdict_of}
use Rattle.docket.proofs.ListVerdicts.{verdicts_of}
use Rattle.docket.proofs.GoodVerdicts.{Proper}
use Rattle.docket.proofs.Reached.{docket_of}
use Rattle.docket.proofs.OneLodging.{lodge_is}
use Rattle.docket.proofs.Lists.{lodges}
use Rattle.list.specs.Listing.{answer_lines}
use Rattle.list.proofs.AnswerSizes.{verdict_fits}

abbrev LineFits : Docket → List ℕ → Type 0
LineFits d text = length (answer_line (stated (lodge_of d text).answer)) ≤ 64

fine : (o : Option Instance) (past : List Verdict) → Proper o past → Fine o
fine none past p = tt
fine (some P) past p = p.0

next_fits : (o : Option Instance) (past : List Verdict) → Proper o past → (text : List ℕ) → LineFits (docket_of o past) text
next_fits o past p text =
    subst (λ (l : Lodged). length (answer_line (stated l.answer)) ≤ 64) (sym (lodge_is o past p text))
    (verdict_fits o (fine o past p) text (docket_of o past) (docket_of o past))

-- the line for one text more
pub reached_fits : (texts : List (List ℕ)) (text : List ℕ) → LineFits (docket_after lodge_of fresh_docket texts) text
reached_fits texts text =
    let r = lodges none [] (refl, refl) texts in
    let vs = verdicts_of none texts in
    subst (λ (d : Docket). LineFits d text) (sym r.docket_is) (next_fits (known_at_end none vs) vs r.proper text)

abbrev LinesFit : Docket → List (List ℕ) → Type 0
LinesFit d texts = length (answer_lines (answers_to lodge_of d texts)) ≤ 64 * length texts

lines_from : (o : Option Instance) (past : List Verdict) → Proper o past → (texts : List (List ℕ)) → LinesFit (docket_of o past) texts
lines_from o past p [] = omega arith
lines_from o past p (text ∷ texts) =
    let r = lodges o past p (text ∷ []) in
    let v = verdict_of o text in
    let l = lodge_of (docket_of o past) text in
    let rest : LinesFit l.docket texts =
    subst (λ (d : Docket). LinesFit d texts) (sym r.docket_is) (lines_from (known_after o v) (past ++ (v ∷ [])) r.proper texts) in
    omega (arith, length-append (answer_line (stated l.answer)) (answer_lines (answers_to lodge_of l.docket texts)), next_fits o past p text, rest)

-- the lines for all
pub lines_fit : (texts : List (List ℕ)) → LinesFit fresh_docket texts
lines_fit texts = lines_from none [] (refl, refl) texts
