-- What a docket tells of the units that `short` takes: under the problem that it judges by, the fewest that reach D + R or all; and one answer alone is that.
use mathlib.Core.Path.{◌≡◌, refl, sym, ap, ap₂, subst, ◌∙◌}
use mathlib.Core.Bool.{Bool, true, false, cond}
use mathlib.Core.List.{List}
use mathlib.Core.Logic.{◌↔◌}
use mathlib.Core.Option.{Option, none, some}
use Prim.Native.Nat.{ℕ, ◌+◌, ◌-◌}
use native.Mathlib.Omega.{arith}
use borrow.Author.Tests.{ltb-true, lt-ltb, eq-eqb}
use lib.ListN.{length}
use Rattle.model.specs.Instance.{Instance, ◌at◌}
use Rattle.model.specs.Held.{view}
use Rattle.model.specs.Above.{Above, put}
use Rattle.model.specs.Largest.{total}
use Rattle.model.specs.Leaf.{available}
use Rattle.model.specs.Turns.{in_turn, Fewest}
use Rattle.model.proofs.Turns.{took_is, fewest_one, in_turn_total, turns_read}
use Rattle.walk.specs.Marks.{most_of}
use Rattle.walk.proofs.AboveMarks.{marks_same}
use Rattle.leaves.specs.declared.short.Taken.{Taken}
use Rattle.docket.specs.declared.Docket.{Docket}
use Rattle.std.specs.Prelude.{Result, Ok, Err}
use Rattle.runs.specs.declared.question.Unanswered.{Unanswered}
use Rattle.runs.specs.declared.question.Unanswered.TheVariants.{Unfit}
use Rattle.docket.specs.Verdicts.{Verdict}
use Rattle.docket.specs.Texts.{Are}
use Rattle.docket.specs.Lodging.{trusted}
use Rattle.docket.specs.Promised.{after, given, Long, JudgesBy, its_own, no_problem}
use Rattle.leaves.specs.LeafLeasts.{taken_in}
use Rattle.docket.specs.Taking.{fits, FitQuestion, asked, taken_under, taken_of}
use Rattle.docket.specs.Requested as said
use Rattle.docket.specs.Requested.{TakenThere, Told, AsAsked}
use Rattle.docket.proofs.Questions.{fits_is, told_known, told_none}
use Rattle.docket.proofs.AskedUnder.{its_known, none_known, given_known, none_given}

-- ---- under a problem

pub taken_there : (P : Instance) (A : Above) (t : ℕ) → TakenThere P A t (taken_in P A t)
taken_there P A t = record { short = (ltb-true _ _, lt-ltb _ _); units = took_is (in_turn P A t) (P.demand at t + P.spare at t) }

told_under : (P : Instance) (period most : ℕ) (fixed : List ℕ) → Told period most fixed (some P) (taken_under P period most fixed)
unfolding taken_under
told_under P period most fixed = go (fits P period most fixed) (fits_is P period most fixed)
  where
    t : ℕ
    t = period - 1

    go : (b : Bool) → (b ≡ true) ↔ FitQuestion P period most fixed → Told period most fixed (some P) (cond b (Ok (taken_in P (asked P t most fixed) t)) (Err Unfit))
    go true f = said.fit (f.0 refl) (taken_there P (asked P t most fixed) t)
    go false f = said.unfit (λ F. let e = f.1 F in let z : ◌≡◌ {A = ℕ} 0 1 = cc in omega arith)

-- ---- of every docket value

told_by : (d : Docket) → (trusted d).known ≡ true → (period most : ℕ) (fixed : List ℕ) → Told period most fixed (some (view d.problem)) (taken_of d period most fixed)
told_by d k period most fixed = subst (Told period most fixed (some (view d.problem))) (sym (told_known d k period most fixed)) (told_under (view d.problem) period most fixed)

told_free : (d : Docket) → (trusted d).known ≡ false → (period most : ℕ) (fixed : List ℕ) → Told period most fixed none (taken_of d period most fixed)
told_free d k period most fixed = subst (Told period most fixed none) (sym (told_none d k period most fixed)) said.no_problem

pub told_anywhere : (d : Docket) → Long d → (o : Option Instance) → JudgesBy d o → (period most : ℕ) (fixed : List ℕ) → Told period most fixed o (taken_of d period most fixed)
told_anywhere d long _ (its_own s) = told_by d (its_known d long s)
told_anywhere d long _ (no_problem n) = told_free d (none_known d long n)

-- ---- after a list of texts

pub told_after : (texts : List (List ℕ)) (vs : List Verdict) → Are none texts vs → (period most : ℕ) (fixed : List ℕ) → Told period most fixed (given vs) (taken_of (after texts) period most fixed)
told_after texts vs are period most fixed = go (given vs) refl
  where
    go : (o : Option Instance) → given vs ≡ o → Told period most fixed o (taken_of (after texts) period most fixed)
    go none e = told_free (after texts) (none_given texts vs are e) period most fixed
    go (some P) e =
        let h = given_known texts vs are P e in
        subst (λ (Q : Instance). Told period most fixed (some Q) (taken_of (after texts) period most fixed)) h.1 (told_by (after texts) h.0 period most fixed)

-- under the problem that they gave, by computing
pub told_as : (texts : List (List ℕ)) (vs : List Verdict) → Are none texts vs → (P : Instance) → given vs ≡ some P → (period most : ℕ) (fixed : List ℕ)
    → taken_of (after texts) period most fixed ≡ taken_under P period most fixed
told_as texts vs are P e period most fixed =
    let h = given_known texts vs are P e in
    told_known (after texts) h.0 period most fixed ∙ ap (λ (Q : Instance). taken_under Q period most fixed) h.1

-- ---- one answer alone

same_bool : (a b : Bool) {X : Type 0} → (a ≡ true) ↔ X → (b ≡ true) ↔ X → a ≡ b
same_bool true b f g = sym (g.1 (f.0 refl))
same_bool false true f g = f.1 (g.0 refl)
same_bool false false f g = refl

there_one : (P : Instance) (A : Above) (t : ℕ) (u v : Taken) → TakenThere P A t u → TakenThere P A t v → u ≡ v
there_one P A t u v p q =
    ap₂ (λ (b : Bool) (n : ℕ). record { short = b; units = n }) (same_bool u.short v.short p.short q.short)
    (fewest_one (in_turn P A t) (P.demand at t + P.spare at t) u.units v.units p.units q.units)

pub told_one : (period most : ℕ) (fixed : List ℕ) (o : Option Instance) (a b : Result Taken Unanswered) → Told period most fixed o a → Told period most fixed o b → a ≡ b
told_one period most fixed _ _ _ said.no_problem said.no_problem = refl
told_one period most fixed _ _ _ (said.unfit n) (said.unfit m) = refl
told_one period most fixed _ _ _ (said.unfit n) (said.fit F u) = absurd (n F)
told_one period most fixed _ _ _ (said.fit F u) (said.unfit n) = absurd (n F)
told_one period most fixed (some P) (Ok u) (Ok v) (said.fit F p) (said.fit G q) = ap Ok (there_one P (asked P (period - 1) most fixed) (period - 1) u v p q)

-- ---- as the leaf of a tree is judged

module _ (P : Instance) (period most : ℕ) (fixed : List ℕ) (F : FitQuestion P period most fixed) (A : Above) (a : AsAsked P (period - 1) most fixed A) where
  abbrev t : ℕ
  t = period - 1

  pub asked_turns : in_turn P (asked P t most fixed) t ≡ in_turn P A t
  asked_turns =
      turns_read P (asked P t most fixed) t A
      (λ u h. sym (marks_same (length P.units) P.periods fixed u h t (omega (arith, F.period_in))) ∙ sym (a.statuses u h))
      (here ∙ sym a.upper)
    where
      here : put t (most_of most) (λ v. none) t ≡ most_of most
      here = rw (eq-eqb t t refl) refl

  pub asked_available : available P (asked P t most fixed) t ≡ available P A t
  asked_available = sym (in_turn_total P (asked P t most fixed) t) ∙ ap total asked_turns ∙ in_turn_total P A t

  pub asked_there : (u : Taken) → TakenThere P (asked P t most fixed) t u → TakenThere P A t u
  asked_there u U =
      let need = P.demand at t + P.spare at t in
      record { short = rw asked_available at U.short; units = subst (λ (l : List ℕ). Fewest l need u.units) asked_turns U.units }
