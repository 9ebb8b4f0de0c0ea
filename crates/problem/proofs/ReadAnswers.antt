-- What the reader's answer says of the text: accepted exactly where the text renders a well-formed problem, which is then held; refused
-- with the number and the line of the first breach.
use Prim.Native.Nat.{ℕ}
use native.Mathlib.Omega.{arith}
use mathlib.Core.Path.{◌≡◌, refl, sym, ap, ◌∙◌}
use mathlib.Core.List.{List}
use Rattle.model.specs.Instance.{Instance}
use Rattle.model.specs.Ranges.{WellFormed}
use Rattle.model.specs.Held.{held, blank_problem}
use Rattle.refusal.specs.Refusals.{refusal_of, line_refusal}
use Rattle.refusal.specs.declared.Refusal.{Refusal}
use Rattle.text.specs.Course.{Judged, refused_at, accepted}
use Rattle.problem.specs.Rendering.{render}
use Rattle.problem.specs.Course.{problem_judged}
use Rattle.problem.specs.Refusals.{RefusedAt}
use Rattle.problem.specs.ReadAnswers.{IsProblem, read_as, problem_read}
use Rattle.std.specs.Prelude.{Result, Ok, Err}
use Rattle.std.specs.Result.{result_unwrap_or}
use Rattle.model.specs.declared.arrays.Problem.{Problem}
use Rattle.problem.proofs.Refusals.{refused_is, refused_carries}
use Rattle.problem.proofs.Acceptance.{render_accepted, accepted_rendered}

-- ---- accepted

-- the rendering of a well-formed problem is read as that problem in arrays
pub render_read : (P : Instance) → WellFormed P → problem_read (render P) ≡ Ok (held P)
unfolding problem_read read_as
render_read P W = ap read_as (render_accepted P W).1

-- the text renders a well-formed problem, which these arrays hold
pub record IsAccepted (arrays : Problem) (text : List ℕ) : Type 0 where
  pub problem : Instance
  pub rendered : text ≡ render problem
  pub well_formed : WellFormed problem
  pub kept : arrays ≡ held problem

pub answer_accepted : (arrays : Problem) (text : List ℕ) → IsProblem text → problem_read text ≡ Ok arrays → IsAccepted arrays text
unfolding problem_read read_as
answer_accepted arrays text k = go (problem_judged text) refl
  where
    go : (j : Judged Instance) → problem_judged text ≡ j → read_as j ≡ Ok arrays → IsAccepted arrays text
    go (refused_at n l) e a = absurd (let z : ◌≡◌ {A = ℕ} 0 1 = cc in omega arith)
    go (accepted P) e a =
        let r = accepted_rendered P text k e in
        let z : held P ≡ arrays = cc in
        record { problem = P; rendered = r.0; well_formed = r.1; kept = sym z }

-- ---- refused

-- a text with a breach is read as its refusal
pub refused_read : (n m : ℕ) (text : List ℕ) → RefusedAt text n m → problem_read text ≡ Err (line_refusal n m)
unfolding problem_read read_as
refused_read n m text r =
    ap read_as ((refused_is n m text).1 r)
    ∙ ap (λ (x : Refusal). Err x) (refused_carries n m text r)

-- whoever takes a blank problem where there is none has that, and nothing of the text
pub refused_blank : (n m : ℕ) (text : List ℕ) → RefusedAt text n m → result_unwrap_or (problem_read text) blank_problem ≡ blank_problem
refused_blank n m text r = ap (λ (x : Result Problem Refusal). result_unwrap_or x blank_problem) (refused_read n m text r)

-- the refusal is that of a breach of the text
pub record IsRefused (x : Refusal) (text : List ℕ) : Type 0 where
  pub number : ℕ
  pub line : ℕ
  pub breach : RefusedAt text number line
  pub refusal : x ≡ line_refusal number line

pub answer_refused : (x : Refusal) (text : List ℕ) → problem_read text ≡ Err x → IsRefused x text
unfolding problem_read read_as
answer_refused x text = go (problem_judged text) refl
  where
    go : (j : Judged Instance) → problem_judged text ≡ j → read_as j ≡ Err x → IsRefused x text
    go (refused_at n l) e a =
        let r = (refused_is n l text).0 e in
        record { number = n; line = l; breach = r; refusal = (let z : refusal_of n l 0 0 ≡ x = cc in sym z) ∙ refused_carries n l text r }
    go (accepted P) e a = absurd (let z : ◌≡◌ {A = ℕ} 0 1 = cc in omega arith)
