-- How many units `short` takes, asked of a docket: the test of a question is what it says, and the bytes that the code lays out above the leaf are what the
-- question names, as far as the answer reads them.
use mathlib.Core.Path.{◌≡◌, refl, sym, ap, ap₂, ◌∙◌}
use mathlib.Core.Bool.{Bool, true, false, cond, ◌&&◌}
use mathlib.Core.List.{List, ◌++◌}
use mathlib.Core.Logic.{◌↔◌}
use mathlib.Core.Option.{none}
use Prim.Native.Nat.{ℕ, ◌+◌, ◌*◌, ◌-◌, ◌≤◌, ◌<◌}
use native.Mathlib.Nat.{mul-le-mul_right}
use native.Mathlib.Omega.{arith}
use borrow.Author.Tests.{eq-eqb}
use lib.Dec.{T, ltb, leb}
use lib.ListN.{length, set, drop, replicate, length-append, length-drop, length-replicate, get_or-append}
use lib.Seq.{get_or-set_same, get_or-set_other}
use Rattle.model.specs.Instance.{Instance, ◌at◌}
use Rattle.model.specs.Ranges.{All, Between, WellFormed, between}
use Rattle.model.specs.Held.{view}
use Rattle.model.specs.Above.{Above, put}
use Rattle.model.specs.Largest.{total}
use Rattle.model.specs.Turns.{turned, in_turn, took}
use Rattle.model.proofs.Tests.{T_true, true_T}
use Rattle.model.proofs.RangeTests.{and_is, between_is, leb_is}
use Rattle.model.proofs.Extents.{SameMarks, usable_ext}
use Rattle.model.proofs.Turns.{in_turn_total}
use Rattle.walk.specs.Marks.{mark_of, marks_in, most_of, most_in, above_of, upper_begin}
use Rattle.walk.proofs.AboveMarks.{marks_same, most_here, statuses_fit}
--
use Rattle.docket.specs.declared.Docket.{Docket}
use Rattle.std.specs.Prelude.{Result, Ok, Err}
use Rattle.runs.specs.declared.question.Unanswered.{Unanswered}
use Rattle.runs.specs.declared.question.Unanswered.TheVariants.{NoProblem}
use Rattle.runs.specs.Questions.{statuses_in}
use Rattle.runs.proofs.Questions.{statuses_are}
use Rattle.docket.specs.Lodging.{trusted}
use Rattle.leaves.specs.LeafLeasts.{taken_in}
use Rattle.docket.specs.Taking.{fits, FitQuestion, asked, taken_under, problem_asked, taken_of}
use Rattle.docket.proofs.HoldingAnswers.{knows_sound, itself}

-- ---- the test of a question

module _ (P : Instance) (period most : ℕ) (fixed : List ℕ) where
  parts_are : T (fits P period most fixed) ↔ (Between 1 period P.periods × ((most ≤ length P.units) × ((length fixed ≡ length P.units * P.periods) × All (λ b. b ≤ 2) fixed)))
  parts_are =
      let T = P.periods in
      let I = length P.units in
      let there = statuses_in T I fixed in
      and_is (between 1 period T) (leb most I && there) (between_is 1 period T)
      (and_is (leb most I) there (leb_is most I) (statuses_are T I fixed))

  pub fits_is : (fits P period most fixed ≡ true) ↔ FitQuestion P period most fixed
  fits_is = (
    λ e. let p = parts_are.0 (true_T (fits P period most fixed) e) in record { period_in = p.0; most_in = p.1.0; long = p.1.1.0; statuses = p.1.1.1 },
    λ F. T_true (fits P period most fixed) (parts_are.1 (F.period_in, (F.most_in, (F.long, F.statuses)))),
  )

-- ---- the bytes above the leaf

-- what is taken is decided by the numbers in turn
taken_same : (P : Instance) (A B : Above) (t : ℕ) → in_turn P A t ≡ in_turn P B t → taken_in P A t ≡ taken_in P B t
taken_same P A B t e =
    let need = P.demand at t + P.spare at t in
    let sums = sym (in_turn_total P A t) ∙ ap total e ∙ in_turn_total P B t in
    ap₂ (λ (n : ℕ) (l : List ℕ). record { short = ltb n need; units = took l need }) sums e

module _ (P : Instance) (W : WellFormed P) (period most : ℕ) (fixed : List ℕ) (F : FitQuestion P period most fixed) where
  abbrev t : ℕ
  t = period - 1

  -- the statuses at the front, the upper count at its place
  abbrev bytes : List ℕ
  bytes = set (fixed ++ drop (length fixed) (replicate 1632 0)) (upper_begin + t) most

  pub t_within : t < P.periods
  t_within = omega (arith, F.period_in)

  pub statuses_first : length fixed ≤ upper_begin
  statuses_first = omega (arith, F.long, statuses_fit P W)

  pub laid_long : length (fixed ++ drop (length fixed) (replicate 1632 0)) ≡ 1632
  laid_long =
      length-append fixed (drop (length fixed) (replicate 1632 0))
      ∙ omega (arith, statuses_first, length-drop {A = ℕ} (length fixed) (replicate 1632 0), length-replicate {A = ℕ} 1632 0)

  -- a status stands where the question has it
  status_stays : (j : ℕ) → j < length fixed → bytes at j ≡ fixed at j
  status_stays j h =
      get_or-set_other (fixed ++ drop (length fixed) (replicate 1632 0)) (upper_begin + t) j most 0 (λ e. omega (arith, e, statuses_first))
      ∙ get_or-append fixed (drop (length fixed) (replicate 1632 0)) 0 j h

  marks_stay : SameMarks (length P.units) P.periods (marks_in (length P.units) P.periods bytes) (marks_in (length P.units) P.periods fixed)
  marks_stay u h v l =
      let I = length P.units in
      let n = P.periods in
      sym (marks_same I n bytes u h v l)
      ∙ ap mark_of (status_stays (u * n + v) (omega (arith, F.long, mul-le-mul_right n h)))
      ∙ marks_same I n fixed u h v l

  count_stands : most_in P.periods bytes t ≡ most_of most
  count_stands =
      sym (most_here P.periods bytes t t_within)
      ∙ ap most_of (get_or-set_same (fixed ++ drop (length fixed) (replicate 1632 0)) (upper_begin + t) most 0 (omega (arith, laid_long, t_within, W.periods_in.1)))

  pub taken_asked : taken_in P (above_of P bytes) t ≡ taken_in P (asked P t most fixed) t
  unfolding in_turn
  taken_asked =
      taken_same P (above_of P bytes) (asked P t most fixed) t
      (ap₂ turned (count_stands ∙ here) (usable_ext P.periods P.units _ _ marks_stay t t_within))
    where
      here : most_of most ≡ put t (most_of most) (λ v. none) t
      here = rw (eq-eqb t t refl) refl

-- ---- by what the docket knows

module _ (d : Docket) where
  pub asked_some : {u : Unit {0}} → problem_asked d ≡ Ok u → (trusted d).known ≡ true
  asked_some {u} e = go (trusted d).known e
    where
      go : (b : Bool) → ◌≡◌ {A = Result (Unit {0}) Unanswered} (cond b (Ok tt) (Err NoProblem)) (Ok u) → b ≡ true
      go true e = refl
      go false e = cc

  pub asked_none : {why : Unanswered} → problem_asked d ≡ Err why → ((trusted d).known ≡ false) × (why ≡ NoProblem)
  asked_none {why} e = go (trusted d).known e
    where
      go : (b : Bool) → ◌≡◌ {A = Result (Unit {0}) Unanswered} (cond b (Ok tt) (Err NoProblem)) (Err why) → (b ≡ false) × (why ≡ NoProblem)
      go true e = cc
      go false e = (refl, cc)

  pub told_known : (trusted d).known ≡ true → (period most : ℕ) (fixed : List ℕ) → taken_of d period most fixed ≡ taken_under (view d.problem) period most fixed
  unfolding taken_of
  told_known k period most fixed =
      ap₂ (λ (b : Bool) (x : Docket). cond b (taken_under (view x.problem) period most fixed) (Err NoProblem)) k (itself d (knows_sound d k))

  pub told_none : (trusted d).known ≡ false → (period most : ℕ) (fixed : List ℕ) → taken_of d period most fixed ≡ Err NoProblem
  unfolding taken_of
  told_none k period most fixed = ap (λ (b : Bool). cond b (taken_under (view (trusted d).problem) period most fixed) (Err NoProblem)) k
