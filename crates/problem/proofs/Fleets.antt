-- The unit lines one after the other: k of n are read, and what remains gives the same answer.
use Prim.Native.Nat.{ℕ, suc, ◌+◌, ◌-◌, ◌≤◌, ◌<◌}
use native.Mathlib.Numerals.{add-one}
use native.Mathlib.Omega.{arith}
use mathlib.Core.Path.{◌≡◌, refl, sym, ap, ◌∙◌}
use mathlib.Core.List.{List, [], ◌∷◌, ◌++◌}
use lib.ListN.{length, take, drop, set}
use lib.Seq.{take-suc-set, length-take-le}
use Rattle.model.specs.declared.generator.Generator.{Generator}
use Rattle.model.specs.declared.arrays.Problem.{Problem}
use Rattle.model.specs.Instance.{Instance}
use Rattle.model.specs.Held.{pad, held, view, blank_generator}
use Rattle.text.specs.Lines.{lines_of, line_at}
use Rattle.text.specs.Course.{refused_at}
use Rattle.text.specs.declared.Fault.{Fault}
use Rattle.text.specs.Forms.{fault_number}
use Rattle.std.specs.Prelude.{Result, Ok, Err}
use Rattle.refusal.specs.declared.Refusal.{Refusal}
use Rattle.text.proofs.Verdicts.{good_next}
use Rattle.problem.specs.Units.{unit_form}
use Rattle.problem.specs.Course.{unit_due, end_due, fleet_due}
use Rattle.problem.specs.ReadAnswers.{read_as}
use Rattle.problem.specs.Storing.{FilledTo, read_from, unit_row}
use Rattle.problem.specs.declared.unit.UnitRow.{UnitRow}
use Rattle.problem.proofs.LineByLine.{read_refused, read_on}
use Rattle.problem.proofs.UnitRows.{row_number, row_unit}

-- a problem with these units
abbrev pub some_units : ℕ → List ℕ → List ℕ → List Generator → Instance
some_units T D R gs = record { periods = T; demand = D; spare = R; units = gs }

-- ---- the lines one by one

-- what remains after k of n unit lines, where line k + 6 starts at the place i
abbrev pub remains : List ℕ → ℕ → ℕ → ℕ → List ℕ → List ℕ → ℕ → List Generator → Result Problem Refusal
remains text T n i D R k gs = read_from text i (k + 6) (fleet_due (n - k) (some_units T D R (take k gs)))

module _ (text : List ℕ) (T n i : ℕ) (D R : List ℕ) (k : ℕ) (gs : List Generator) (whole : Result Problem Refusal) (so_far : remains text T n i D R k gs ≡ whole) where
  module _ (h : k < n) (read : Result UnitRow Fault) (is : read ≡ unit_row (line_at text i) i) where
    due_more : (P : Instance) → fleet_due (n - k) P ≡ unit_due (n - (k + 1)) P
    due_more P = let e : n - k ≡ suc (n - (k + 1)) = omega arith in ap (λ (m : ℕ). fleet_due m P) e

    -- the answer where the line is refused
    pub fleet_refused : (r : Result Problem Refusal) (w : Fault) → read ≡ Err w → r ≡ read_as (refused_at (fault_number w) (k + 6)) → r ≡ whole
    fleet_refused r w v a =
        let P = some_units T D R (take k gs) in
        a
        ∙ read_refused text i (k + 6) (unit_due (n - (k + 1)) P) (fault_number w) refl (row_number (line_at text i) i (n - (k + 1)) w P (sym is ∙ v))
        ∙ ap (read_from text i (k + 6)) (sym (due_more P))
        ∙ so_far

    -- one line more
    pub fleet_on : (row : UnitRow) → read ≡ Ok row → k < length gs → remains text T n row.next D R (k + 1) (set gs k row.generator) ≡ whole
    fleet_on row v b =
        let P = some_units T D R (take k gs) in
        let u = row_unit (line_at text i) i row (sym is ∙ v) in
        let t : take (k + 1) (set gs k row.generator) ≡ take k gs ++ (row.generator ∷ []) = ap (λ (m : ℕ). take m (set gs k row.generator)) (add-one k) ∙ take-suc-set gs k row.generator b in
        let l : k + 1 + 6 ≡ suc (k + 6) = omega arith in
        (λ j. read_from text row.next (l j) (fleet_due (n - (k + 1)) (some_units T D R (t j))))
        ∙ read_on text i (k + 6) (unit_due (n - (k + 1)) P) row.next _ (u.judged (n - (k + 1)) P)
        (ap (λ (m : ℕ). lines_of (drop m text)) u.place ∙ good_next unit_form text i u.formed)
        ∙ ap (read_from text i (k + 6)) (sym (due_more P))
        ∙ so_far

-- ---- all are read: the arrays hold the problem

module _ (T n : ℕ) (D R : List ℕ) (gs : List Generator) where
  -- the struct of these arrays
  abbrev pub arrays : Problem
  arrays = record { periods = T; units = n; demand = D; spare = R; generators = gs }

  pub arrays_held : FilledTo T D → FilledTo T R → length gs ≡ 32 → n ≤ 32 → pad blank_generator 32 (take n gs) ≡ gs → held (view arrays) ≡ arrays
  unfolding held view pad
  arrays_held d r l h e =
      λ i. record { periods = T; units = length-take-le n gs (omega arith) i; demand = d i; spare = r i; generators = e i }

  -- the answer is that of the end line
  pub fleet_ended : (text : List ℕ) (i k : ℕ) (whole r : Result Problem Refusal) → remains text T n i (take T D) (take T R) k gs ≡ whole → k ≤ n → n ≤ k
      → r ≡ read_from text i (n + 6) (end_due (view arrays)) → r ≡ whole
  unfolding view
  fleet_ended text i k whole r so_far h m a =
      let e : n ≡ k = omega arith in
      let z : n - k ≡ 0 = omega arith in
      a
      ∙ ap (λ (j : ℕ). read_from text i (j + 6) (end_due (some_units T (take T D) (take T R) (take j gs)))) e
      ∙ ap (λ (j : ℕ). read_from text i (k + 6) (fleet_due j (some_units T (take T D) (take T R) (take k gs)))) (sym z)
      ∙ so_far
