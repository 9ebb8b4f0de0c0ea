-- More than 1,536 statuses fit no problem, so that a text's first 1,537 bytes are answered as all of them are.
use Rattle.std.proofs.Common.{◌≡◌, ℕ, ◌*◌, ◌<◌, ◌≤◌, Bool, true, false, ltb, List, map, length, take, sym, refl, ap, ◌∙◌, mul-le-mul, arith, length-take, take_all, ltb-false, ltb-true}
use lib.ListN.{length-map}
use Rattle.model.specs.declared.arrays.Problem.{Problem}
use Rattle.model.specs.Instance.{Instance}
use Rattle.model.specs.Held.{view, valid_problem}
use Rattle.model.proofs.Valid.{valid_sizes}
use Rattle.docket.specs.declared.Docket.{Docket}
use Rattle.std.specs.Prelude.{Err}
use Rattle.runs.specs.declared.question.Unanswered.TheVariants.{Unfit}
use Rattle.docket.specs.Lodging.{trusted}
use Rattle.docket.specs.Taking.{fits, taken_under, taken_of}
use Rattle.docket.proofs.HoldingAnswers.{knows_valid}
use Rattle.docket.proofs.Questions.{fits_is, told_known, told_none}

-- at most 32 units in 48 periods
statuses_few : (p : Problem) → valid_problem p ≡ true → length (view p).units * (view p).periods ≤ 1536
unfolding view
statuses_few p v =
    let sizes = valid_sizes p v in
    let units : length (take p.units p.generators) ≤ 32 = simp length-take (omega (arith, sizes.1)) in
    omega (arith, mul-le-mul units sizes.0)

unfit : (P : Instance) (period most : ℕ) (s : List ℕ) → fits P period most s ≡ false → taken_under P period most s ≡ Err Unfit
unfolding taken_under
unfit P period most s e = rw e refl

module _ (d : Docket) (period most : ℕ) where
  long_unfit : (trusted d).known ≡ true → (s : List ℕ) → 1536 < length s → taken_of d period most s ≡ Err Unfit
  long_unfit k s h = told_known d k period most s ∙ unfit (view d.problem) period most s (go (fits (view d.problem) period most s) refl)
    where
      go : (b : Bool) → fits (view d.problem) period most s ≡ b → fits (view d.problem) period most s ≡ false
      go true e =
          let F = (fits_is (view d.problem) period most s).0 e in
          absurd (omega (arith, F.long, statuses_few d.problem (knows_valid d k)))
      go false e = e

  long_alike : (s r : List ℕ) → 1536 < length s → 1536 < length r → taken_of d period most s ≡ taken_of d period most r
  long_alike s r h l = go (trusted d).known refl
    where
      go : (b : Bool) → (trusted d).known ≡ b → taken_of d period most s ≡ taken_of d period most r
      go true k = long_unfit k s h ∙ sym (long_unfit k r l)
      go false k = told_none d k period most s ∙ sym (told_none d k period most r)

  -- whatever a byte stands for
  pub cut_alike : (f : ℕ → ℕ) (s : List ℕ) → taken_of d period most (map f (take 1537 s)) ≡ taken_of d period most (map f s)
  cut_alike f s = go (ltb 1536 (length s)) refl
    where
      go : (b : Bool) → ltb 1536 (length s) ≡ b → taken_of d period most (map f (take 1537 s)) ≡ taken_of d period most (map f s)
      go true e =
          let long = ltb-true 1536 (length s) e in
          long_alike (map f (take 1537 s)) (map f s)
          (simp (length-map, length-take) (omega (arith, long)))
          (simp length-map long)
      go false e =
          let short = ltb-false 1536 (length s) e in
          ap (λ (t : List ℕ). taken_of d period most (map f t)) (take_all 1537 s (omega (arith, short)))
