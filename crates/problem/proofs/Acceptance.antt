-- A problem is held as its text gives it: a text is accepted as a problem exactly where it is that problem's rendering and the problem is
-- well-formed.
use Prim.Native.Nat.{ℕ}
use mathlib.Core.Path.{◌≡◌, refl, sym, ap, ◌∙◌}
use mathlib.Core.Bool.{false, not}
use mathlib.Core.Logic.{◌↔◌}
use mathlib.Core.List.{List, [], ◌∷◌, ◌++◌, map}
use lib.ListN.{length}
use Rattle.model.specs.declared.generator.Generator.{Generator}
use Rattle.model.specs.Instance.{Instance}
use Rattle.model.specs.Ranges.{WellFormed}
use Rattle.text.specs.Lines.{ended, due, later, lines_of, line_at, kind_problem, end_problem}
use Rattle.text.specs.Course.{accepted}
use Rattle.text.proofs.FirstLine.{problem_is}
use Rattle.text.proofs.Bytes.{rendered_one_line}
use Rattle.text.proofs.Courses as courses
use Rattle.text.proofs.Texts.{OneLines, lines_text, whole_is}
use Rattle.problem.specs.Units.{unit_key, unit_line, Tini_place, unit_numbers}
use Rattle.problem.specs.Rendering.{periods_key, units_key, demand_key, spare_key, lines_after, render}
use Rattle.problem.specs.Course.{periods_due, tests, next_due, judge, end, problem_judged}
use Rattle.problem.specs.ReadAnswers.{IsProblem}
use Rattle.problem.proofs.Rendered.{lines_good}
use Rattle.problem.proofs.WasRendered.{lines_were}

-- ---- the lines of a problem

units_one : (gs : List Generator) → OneLines (map unit_line gs ++ (end_problem ∷ []))
unfolding unit_line
units_one [] = (refl, tt)
units_one (g ∷ gs) = (rendered_one_line unit_key Tini_place (not g.on) (unit_numbers g) refl, units_one gs)

lines_one : (P : Instance) → OneLines (lines_after P)
unfolding lines_after
lines_one P = (
  rendered_one_line periods_key 0 false (P.periods ∷ []) refl,
  (rendered_one_line units_key 0 false (length P.units ∷ []) refl, (rendered_one_line demand_key 0 false P.demand refl, (rendered_one_line spare_key 0 false P.spare refl, units_one P.units))),
)

render_is_problem : (P : Instance) → IsProblem (render P)
unfolding render
render_is_problem P = (problem_is (line_at (render P) 0)).1 (ap due (lines_text (kind_problem ∷ lines_after P) (refl, lines_one P)))

-- a text is the rendering exactly where its first line is kind=problem and these are the others
rendered_is : (P : Instance) (text : List ℕ) → IsProblem text → (later (lines_of text) ≡ map ended (lines_after P)) ↔ (text ≡ render P)
unfolding render
rendered_is P text k = whole_is text kind_problem (lines_after P) ((problem_is (line_at text 0)).0 k) (refl, lines_one P)

-- ---- accepted

-- the rendering of a well-formed problem is accepted as that problem
pub render_accepted : (P : Instance) → WellFormed P → IsProblem (render P) × (problem_judged (render P) ≡ accepted P)
unfolding problem_judged judge
render_accepted P W =
    let k = render_is_problem P in
    (k, (courses.accepted_is tests next_due end P 2 periods_due (later (lines_of (render P)))).1 (rw ((rendered_is P (render P) k).1 refl) (lines_good P W)))

-- a text that is accepted is the rendering of what it is accepted as
pub accepted_rendered : (P : Instance) (text : List ℕ) → IsProblem text → problem_judged text ≡ accepted P → (text ≡ render P) × WellFormed P
unfolding problem_judged judge
accepted_rendered P text k e =
    let L = lines_were P (later (lines_of text)) ((courses.accepted_is tests next_due end P 2 periods_due (later (lines_of text))).0 e) in
    ((rendered_is P text k).0 L.lines, L.well_formed)

pub accepted_is : (P : Instance) (text : List ℕ) → (IsProblem text × (problem_judged text ≡ accepted P)) ↔ ((text ≡ render P) × WellFormed P)
accepted_is P text = (λ p. accepted_rendered P text p.0 p.1, λ q. rw q.0 (render_accepted P q.1))

-- two well-formed problems with the same text are the same
pub render_injective : (P Q : Instance) → WellFormed P → WellFormed Q → render P ≡ render Q → P ≡ Q
render_injective P Q W W' e =
    let z : accepted P ≡ accepted Q = sym (render_accepted P W).1 ∙ ap problem_judged e ∙ (render_accepted Q W').1 in
    cc
