-- What the texts of a list are is one list of verdicts, and there always is one: text by text, each under the problem that those before it gave.
use mathlib.Core.Path.{◌≡◌, refl, sym, ap, subst, ◌∙◌}
use mathlib.Core.List.{List, [], ◌∷◌}
use mathlib.Core.Option.{Option, none, some}
use Prim.Native.Nat.{ℕ}
use Rattle.model.specs.Instance.{Instance}
use Rattle.docket.specs.Verdicts.{Verdict, known_after}
use Rattle.docket.specs.Texts.{Is, too_long, no_kind, schedule_early, tree_early, problem_refused, a_problem, Are, no_more, then}
use Rattle.docket.proofs.OneVerdict.{Fine, verdict_of, verdict_is, is_verdict}

-- a text leaves a well-formed problem, or none
pub fine_after : (o : Option Instance) (text : List ℕ) (v : Verdict) → Fine o → Is o text v → Fine (known_after o v)
fine_after (some P) text v W i = W
fine_after none text v W (too_long h) = tt
fine_after none text v W (no_kind h p s t) = tt
fine_after none text v W (schedule_early h b) = tt
fine_after none text v W (tree_early h b) = tt
fine_after none text v W (problem_refused n l h b r) = tt
fine_after none text v W (a_problem P h e G) = G

-- what lodging judges, text by text
abbrev pub verdicts_of : Option Instance → List (List ℕ) → List Verdict
verdicts_of o [] = []
verdicts_of o (text ∷ texts) = verdict_of o text ∷ verdicts_of (known_after o (verdict_of o text)) texts

pub verdicts_are : (o : Option Instance) → Fine o → (texts : List (List ℕ)) → Are o texts (verdicts_of o texts)
verdicts_are o W [] = no_more
verdicts_are o W (text ∷ texts) =
    let i = verdict_is o W text in
    then i (verdicts_are (known_after o (verdict_of o text)) (fine_after o text (verdict_of o text) W i) texts)

pub are_verdicts : (o : Option Instance) (texts : List (List ℕ)) (vs : List Verdict) → Fine o → Are o texts vs → verdicts_of o texts ≡ vs
are_verdicts o texts vs W no_more = refl
are_verdicts o texts vs W (then {text = t} {texts = ts} {v = v} {vs = us} i a) =
    let e = is_verdict o t v W i in
    subst (λ (x : Verdict). x ∷ verdicts_of (known_after o x) ts ≡ v ∷ us) (sym e)
    (ap (λ (x : List Verdict). v ∷ x) (are_verdicts (known_after o v) ts us (fine_after o t v W i) a))

-- one list at most
pub one_list : (o : Option Instance) (texts : List (List ℕ)) (vs us : List Verdict) → Fine o → Are o texts vs → Are o texts us → vs ≡ us
one_list o texts vs us W a b = sym (are_verdicts o texts vs W a) ∙ are_verdicts o texts us W b
