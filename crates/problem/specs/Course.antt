-- A problem's text judged line by line, as the code follows it: what is due after the first line, and the tests 12, 14, 13, 15 of a line at its place.
use Rattle.std.specs.Prelude.{ℕ, zero, suc, not, List, [], ◌∷◌, ◌++◌}
use Rattle.std.proofs.Math.Option.{Option, none, some}
use Rattle.model.specs.declared.generator.Generator.{Generator}
use Rattle.model.specs.Instance.{Instance, ◌at◌}
use Rattle.model.specs.Ranges.{ordered}
use Rattle.text.specs.Lines.{Line, later, lines_of, end_problem}
use Rattle.text.specs.Forms.{numbers_of, form_tests, word_tests, nothing_tests}
use Rattle.text.specs.Course.{Found, Judged, judged_from}
use Rattle.text.specs.Tests.{Test, ◌if◌, found}
use Rattle.problem.specs.Units.{unit_form, unit_of}
use Rattle.problem.specs.Refusals.{periods_form, units_form, demand_form, spare_form}

-- ---- what is due

-- the line that is due, with what the lines above it said: T, then I, then the demand; from the unit lines on, the problem so
-- far and how many unit lines follow the one that is due
pub data Due : Type 0 where
  periods_due : Due
  units_due : ℕ → Due
  demand_due : ℕ → ℕ → Due
  spare_due : ℕ → ℕ → List ℕ → Due
  unit_due : ℕ → Instance → Due
  end_due : Instance → Due
  nothing_due : Instance → Due

-- n unit lines, and then the end line
abbrev pub fleet_due : ℕ → Instance → Due
fleet_due zero P = end_due P
fleet_due (suc n) P = unit_due n P

-- a problem that has no units yet, and one with a unit more
abbrev pub no_units : ℕ → List ℕ → List ℕ → Instance
no_units T D R = record { periods = T; demand = D; spare = R; units = [] }

abbrev pub with_unit : Instance → Generator → Instance
with_unit P g = record { periods = P.periods; demand = P.demand; spare = P.spare; units = P.units ++ (g ∷ []) }

-- what is due after a good line
abbrev pub next_due : Due → Line → Due
next_due periods_due l = units_due (numbers_of periods_form l at 0)
next_due (units_due T) l = demand_due T (numbers_of units_form l at 0)
next_due (demand_due T I) l = spare_due T I (numbers_of (demand_form T) l)
next_due (spare_due T I D) l = fleet_due I (no_units T D (numbers_of (spare_form T) l))
next_due (unit_due n P) l = fleet_due n (with_unit P (unit_of l))
next_due (end_due P) l = nothing_due P
next_due (nothing_due P) l = nothing_due P

-- ---- document 01, Numbers that come from the text: the tests of a line at its place

-- 12, 14, 13, and on a unit line 15: pL above pU, Hsc above Csc, or a p0 that Tini does not allow
abbrev pub tests : Due → Line → List Test
tests periods_due l = form_tests periods_form l []
tests (units_due T) l = form_tests units_form l []
tests (demand_due T I) l = form_tests (demand_form T) l []
tests (spare_due T I D) l = form_tests (spare_form T) l []
tests (unit_due n P) l = form_tests unit_form l (15 if not (ordered (unit_of l)) ∷ [])
tests (end_due P) l = word_tests end_problem l
tests (nothing_due P) l = nothing_tests

-- refused by the first of them that holds, or good, with what is due then
unfoldable pub judge : Due → Line → Found Due
judge s l = found (tests s l) (next_due s l)

-- the text may end where nothing is due
abbrev pub end : Due → Option Instance
end periods_due = none
end (units_due T) = none
end (demand_due T I) = none
end (spare_due T I D) = none
end (unit_due n P) = none
end (end_due P) = none
end (nothing_due P) = some P

-- a text whose first line is kind=problem
unfoldable pub problem_judged : List ℕ → Judged Instance
problem_judged text = judged_from judge end 2 periods_due (later (lines_of text))
