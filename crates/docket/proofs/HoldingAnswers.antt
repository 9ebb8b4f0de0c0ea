-- Lodging, by what the readers give: an admitted text is of its kind, what lodging does with its verdict is what is done with its reader's answer, and
-- a schedule or a tree is admitted only under a known problem, so that what is done with it is done over the docket itself.
use Rattle.std.specs.Prelude.{Err, Ok, Result}
use mathlib.Core.Path.{◌≡◌, refl, sym, ap, ◌∙◌}
use mathlib.Core.Bool.{Bool, true, false, ◌&&◌, cond}
use mathlib.Core.List.{List}
use Prim.Native.Nat.{ℕ, ◌≤◌, ◌<◌}
use native.Mathlib.Omega.{arith}
use lib.Dec.{ltb}
use lib.ListN.{length}
use borrow.Author.Tests.{ltb-false, lt-ltb, le-ltb}
use Rattle.model.specs.Instance.{Instance}
use Rattle.model.specs.Held.{view, valid_problem}
use Rattle.refusal.specs.declared.Refusal.{Refusal}
use Rattle.text.specs.Lines.{line_at, kind_of}
use Rattle.text.specs.Course.{Judged, refused_at, accepted}
use Rattle.text.specs.declared.Kind.{Kind}
use Rattle.text.specs.declared.Kind.TheVariants as kind
use Rattle.problem.specs.Course.{problem_judged}
use Rattle.problem.specs.ReadAnswers as problems
use Rattle.problem.specs.ReadAnswers.{problem_read}
use Rattle.schedule.specs.ReadAnswers.{Outcome, refused_by, accepted_as, schedule_outcome, in_arrays, schedule_read}
use Rattle.tree.specs.Course as trees
use Rattle.tree.specs.Acceptance.{Bounded}
use Rattle.tree.specs.ReadAnswers as tree_reading
use Rattle.tree.specs.ReadAnswers.{tree_read}
use Rattle.docket.specs.declared.Docket.{Docket}
use Rattle.docket.specs.declared.admission.Admission.{Admission}
use Rattle.docket.specs.declared.admission.Admission.TheVariants as admission
use Rattle.answer.specs.declared.Answer.TheVariants.{Refused}
use Rattle.docket.specs.Docket.{fresh_docket, sound_by, sound}
use Rattle.docket.specs.Texts.{Short}
use Rattle.docket.specs.Lodging.{refuse_whole, admit_kind, admit, by_problem, by_schedule, by_tree, verdict_by, text_judged, lodged, hold, trusted, lodge_of}
use Rattle.docket.specs.HoldingAnswers.{hold_problem, hold_schedule, hold_tree}

-- ---- admitted

-- a text of at most 1,048,576 bytes, of the kind k
pub record Admitted (known : Bool) (text : List ℕ) (k : Kind) (held : Bool) : Type 0 where
  pub is_short : Short text
  pub kind_is : kind_of (line_at text 0) ≡ k
  pub known_is : known ≡ held

module _ (known : Bool) (text : List ℕ) where
  of_kind : (k : Kind) (held : Bool) (a : Result Admission Refusal) → ((j : Kind) (b : Bool) → admit_kind j b ≡ a → (j ≡ k) × (b ≡ held)) → ((n l : ℕ) → refuse_whole n l ≡ a → ⊥)
      → admit known text ≡ a
      → Admitted known text k held
  unfolding admit
  of_kind k held a f g e = go (ltb 1048576 (length text)) refl e
    where
      go : (t : Bool) → ltb 1048576 (length text) ≡ t → cond t (refuse_whole 11 0) (admit_kind (kind_of (line_at text 0)) known) ≡ a → Admitted known text k held
      go true p q = absurd (g 11 0 q)
      go false p q = let r = f (kind_of (line_at text 0)) known q in record { is_short = ltb-false 1048576 (length text) p; kind_is = r.0; known_is = r.1 }

  clash : {A : Type 0} → ◌≡◌ {A = ℕ} 0 1 → A
  clash z = absurd (omega arith)

  pub admitted_problem : admit known text ≡ Ok admission.Problem → Admitted known text kind.Problem false
  admitted_problem = of_kind kind.Problem false (Ok admission.Problem) go (λ n l e. clash (cc))
    where
      go : (j : Kind) (b : Bool) → admit_kind j b ≡ Ok admission.Problem → (j ≡ kind.Problem) × (b ≡ false)
      go kind.Unknown b e = clash (cc)
      go kind.Problem true e = clash (cc)
      go kind.Problem false e = (refl, refl)
      go kind.Schedule true e = clash (cc)
      go kind.Schedule false e = clash (cc)
      go kind.Tree true e = clash (cc)
      go kind.Tree false e = clash (cc)

  pub admitted_schedule : admit known text ≡ Ok admission.Schedule → Admitted known text kind.Schedule true
  admitted_schedule = of_kind kind.Schedule true (Ok admission.Schedule) go (λ n l e. clash (cc))
    where
      go : (j : Kind) (b : Bool) → admit_kind j b ≡ Ok admission.Schedule → (j ≡ kind.Schedule) × (b ≡ true)
      go kind.Unknown b e = clash (cc)
      go kind.Problem true e = clash (cc)
      go kind.Problem false e = clash (cc)
      go kind.Schedule true e = (refl, refl)
      go kind.Schedule false e = clash (cc)
      go kind.Tree true e = clash (cc)
      go kind.Tree false e = clash (cc)

  pub admitted_tree : admit known text ≡ Ok admission.Tree → Admitted known text kind.Tree true
  admitted_tree = of_kind kind.Tree true (Ok admission.Tree) go (λ n l e. clash (cc))
    where
      go : (j : Kind) (b : Bool) → admit_kind j b ≡ Ok admission.Tree → (j ≡ kind.Tree) × (b ≡ true)
      go kind.Unknown b e = clash (cc)
      go kind.Problem true e = clash (cc)
      go kind.Problem false e = clash (cc)
      go kind.Schedule true e = clash (cc)
      go kind.Schedule false e = clash (cc)
      go kind.Tree true e = (refl, refl)
      go kind.Tree false e = clash (cc)

-- what admitting answers, by the text's size
module _ (known : Bool) (text : List ℕ) where
  pub admit_long : 1048576 < length text → refuse_whole 11 0 ≡ admit known text
  unfolding admit
  admit_long h = rw (lt-ltb 1048576 (length text) h) refl

  pub admit_short : length text ≤ 1048576 → admit_kind (kind_of (line_at text 0)) known ≡ admit known text
  unfolding admit
  admit_short h = rw (le-ltb 1048576 (length text) h) refl

-- ---- what is done with the answers

module _ (d : Docket) (text : List ℕ) where
  pub problem_held : (e : Docket) → hold d e (by_problem (problem_judged text)) ≡ hold_problem d (problem_read text)
  unfolding problem_read problems.read_as
  problem_held e = go (problem_judged text)
    where
      go : (j : Judged Instance) → hold d e (by_problem j) ≡ hold_problem d (problems.read_as j)
      go (refused_at n l) = refl
      go (accepted P) = refl

  pub schedule_held : (P : Instance) → hold d d (by_schedule (schedule_outcome P text)) ≡ hold_schedule d (schedule_read P text).answer (schedule_read P text).rows
  unfolding schedule_read in_arrays
  schedule_held P = go (schedule_outcome P text)
    where
      go : (j : Outcome) → hold d d (by_schedule j) ≡ hold_schedule d (in_arrays j).answer (in_arrays j).rows
      go (refused_by r) = refl
      go (accepted_as w c s) = refl

  pub tree_held : (P : Instance) → hold d d (by_tree (trees.tree_judged P text)) ≡ hold_tree d (tree_read P text)
  unfolding tree_read tree_reading.read_as
  tree_held P = go (trees.tree_judged P text)
    where
      go : (j : Judged Bounded) → hold d d (by_tree j) ≡ hold_tree d (tree_reading.read_as j)
      go (refused_at n l) = refl
      go (accepted F) = refl

-- ---- sound or not

-- a sound docket's known problem passes
pub sound_valid : (d : Docket) → sound d ≡ true → d.known ≡ true → valid_problem d.problem ≡ true
unfolding sound
sound_valid d e k = first (valid_problem d.problem) _ (rw k at e)
  where
    first : (a b : Bool) → a && b ≡ true → a ≡ true
    first true b e = refl
    first false b e = e

pub fresh_sound : sound fresh_docket ≡ true
unfolding sound
fresh_sound = refl

-- lodging over the docket itself, or over a fresh one
pub lodge_sound : (d : Docket) (text : List ℕ) → sound d ≡ true → lodge_of d text ≡ hold d d (text_judged d.known (view d.problem) text)
unfolding lodge_of
lodge_sound d text e = rw e refl

pub lodge_unsound : (d : Docket) (text : List ℕ) → sound d ≡ false
    → lodge_of d text ≡ hold d fresh_docket (text_judged false (view fresh_docket.problem) text)
unfolding lodge_of
lodge_unsound d text e = rw e refl

-- ---- what is known: a problem, by a docket that is sound and so is taken for itself

module _ (d : Docket) where
  pub knows_if : d.known ≡ true → (trusted d).known ≡ sound_by true d.problem d.held
  unfolding sound
  knows_if k = go (sound d) ∙ ap (λ (b : Bool). sound_by b d.problem d.held) k
    where
      go : (s : Bool) → (cond s d fresh_docket).known ≡ s
      go true = k
      go false = refl

  pub knows_none : d.known ≡ false → (trusted d).known ≡ false
  knows_none k = go (sound d)
    where
      go : (s : Bool) → (cond s d fresh_docket).known ≡ false
      go true = k
      go false = refl

  pub knows_sound : (trusted d).known ≡ true → sound d ≡ true
  knows_sound = go (sound d)
    where
      go : (s : Bool) → (cond s d fresh_docket).known ≡ true → s ≡ true
      go true k = refl
      go false k = k

  pub itself : sound d ≡ true → trusted d ≡ d
  itself e = rw e refl

  pub knows_valid : (trusted d).known ≡ true → valid_problem d.problem ≡ true
  knows_valid k =
      let e = knows_sound k in
      sound_valid d e (ap (λ (x : Docket). x.known) (sym (itself e)) ∙ k)

-- ---- by the admission

module _ (d : Docket) (text : List ℕ) where
  by_admission : (a : Result Admission Refusal) → admit (trusted d).known text ≡ a → lodge_of d text ≡ hold d (trusted d) (verdict_by a (view (trusted d).problem) text)
  unfolding lodge_of text_judged
  by_admission a e = rw e refl

  pub refused_lodged : (r : Refusal) → admit (trusted d).known text ≡ Err r → lodge_of d text ≡ lodged d (Refused r)
  refused_lodged r e = by_admission (Err r) e

  -- so a text that is refused before its lines need not be lodged in a sound docket
  pub screened_lodged : sound d ≡ true → (r : Refusal) → admit d.known text ≡ Err r → lodge_of d text ≡ lodged d (Refused r)
  screened_lodged s r e = refused_lodged r (ap (λ (x : Docket). admit x.known text) (itself d s) ∙ e)

  pub problem_lodged : admit (trusted d).known text ≡ Ok admission.Problem → lodge_of d text ≡ hold_problem d (problem_read text)
  problem_lodged e = by_admission (Ok admission.Problem) e ∙ problem_held d text (trusted d)

  -- under a known problem
  over_itself : (a : Result Admission Refusal) → admit (trusted d).known text ≡ a → (trusted d).known ≡ true → lodge_of d text ≡ hold d d (verdict_by a (view d.problem) text)
  over_itself a e k = by_admission a e ∙ ap (λ (x : Docket). hold d x (verdict_by a (view x.problem) text)) (itself d (knows_sound d k))

  pub schedule_lodged : admit (trusted d).known text ≡ Ok admission.Schedule
      → lodge_of d text ≡ hold_schedule d (schedule_read (view d.problem) text).answer (schedule_read (view d.problem) text).rows
  schedule_lodged e =
      over_itself (Ok admission.Schedule) e (admitted_schedule (trusted d).known text e).known_is
      ∙ schedule_held d text (view d.problem)

  pub tree_lodged : admit (trusted d).known text ≡ Ok admission.Tree → lodge_of d text ≡ hold_tree d (tree_read (view d.problem) text)
  tree_lodged e =
      over_itself (Ok admission.Tree) e (admitted_tree (trusted d).known text e).known_is
      ∙ tree_held d text (view d.problem)
