-- What the row of a unit line says: by 12, 14, 13 of its form, and then by 15.
use Prim.Native.Nat.{ℕ, ◌<◌}
use native.Mathlib.Omega.{arith}
use mathlib.Core.Path.{◌≡◌, refl, sym, ap, ◌∙◌}
use mathlib.Core.Bool.{Bool, true, false, not, cond}
use mathlib.Core.List.{[], ◌∷◌}
use lib.ListN.{get_or}
use Rattle.model.specs.declared.generator.Generator.{Generator}
use Rattle.model.specs.Instance.{Instance}
use Rattle.model.specs.Ranges.{ordered}
use Rattle.text.specs.Lines.{Line}
use Rattle.text.specs.Forms as forms
use Rattle.text.specs.Forms.{form_refusal, fault_number, fault_of, place_after, pad_48, row_of, good_row_of, values_of, sizes}
use Rattle.text.specs.Course.{refused, good}
use Rattle.text.specs.Tests.{◌if◌, found}
use Rattle.text.specs.declared.Row.{Row}
use Rattle.text.specs.declared.Fault.{Fault}
use Rattle.text.specs.declared.Fault.TheVariants.{Disordered}
use Rattle.std.specs.Prelude.{Result, Ok, Err}
use Rattle.text.proofs.Verdicts.{fault_is, good_read, form_refused, form_found}
use Rattle.text.proofs.Accepted.{good_rendered}
use Rattle.text.proofs.Plain.{pad_48_at}
use Rattle.problem.specs.Units.{unit_form, unit_of, generator}
use Rattle.problem.specs.Course.{unit_due, fleet_due, with_unit, judge}
use Rattle.problem.specs.Storing.{unit_row}
use Rattle.problem.specs.declared.unit.UnitRow.{UnitRow}

module _ (l : Line) (at : ℕ) where
  -- ---- what the reader of the line answers, from the row of its numbers

  module _ (read : Result Row Fault) (is : read ≡ row_of unit_form l at) where
    pub unit_refused : (w : Fault) → read ≡ Err w → Err w ≡ unit_row l at
    unfolding unit_row row_of
    unit_refused w v = go (forms.good_line unit_form l) (sym is ∙ v)
      where
        go : (g : Bool) → cond g (Ok (good_row_of unit_form l at)) (Err (fault_of (form_refusal unit_form l))) ≡ Err w
            → Err w ≡ cond g (cond {A = Result UnitRow Fault} (ordered (unit_of l)) (Ok (record { next = place_after l at; generator = unit_of l })) (Err Disordered)) (Err (fault_of (form_refusal unit_form l)))
        go true q = absurd (let z : ◌≡◌ {A = ℕ} 0 1 = cc in omega arith)
        go false q = let p : w ≡ fault_of (form_refusal unit_form l) = cc in ap (λ (x : Fault). Err x) p

    module _ (row : Row) (v : read ≡ Ok row) where
      was_good : (forms.good_line unit_form l ≡ true) × (row ≡ good_row_of unit_form l at)
      was_good = good_read unit_form l at read is row v

      -- the zeros after the values change nothing
      built : (g : Generator) → g ≡ generator row.minus row.values → g ≡ unit_of l
      unfolding unit_of
      built g e =
          let vs = sizes (values_of unit_form l) in
          let c = (good_rendered unit_form l was_good.0).fits.count in
          let i : (k : ℕ) → k < 15 → get_or (pad_48 vs) k 0 ≡ get_or vs k 0 = λ k h. pad_48_at vs k (omega arith) in
          e
          ∙ ap (λ (r : Row). generator r.minus r.values) was_good.1
          ∙ simp (
            i 0 (omega arith),
            i 1 (omega arith),
            i 2 (omega arith),
            i 3 (omega arith),
            i 4 (omega arith),
            i 5 (omega arith),
            i 6 (omega arith),
            i 7 (omega arith),
            i 8 (omega arith),
            i 9 (omega arith),
            i 10 (omega arith),
            i 11 (omega arith),
            i 12 (omega arith),
            i 13 (omega arith),
            i 14 (omega arith),
          )

      module _ (g : Generator) (e : g ≡ generator row.minus row.values) where
        pub unit_unordered : ordered g ≡ false → Err Disordered ≡ unit_row l at
        unfolding unit_row
        unit_unordered o = simp (was_good.0, ap ordered (sym (built g e)) ∙ o)

        pub unit_good : ordered g ≡ true → Ok (record { next = row.next; generator = g }) ≡ unit_row l at
        unfolding unit_row
        unit_good o = simp (was_good.0, ap ordered (sym (built g e)) ∙ o) (λ i. Ok (record { next = (was_good.1 i).next; generator = built g e i }))

  -- ---- what the row says of the line at its place

  module _ (m : ℕ) (P : Instance) where
    judge_number : forms.good_line unit_form l ≡ false → judge (unit_due m P) l ≡ refused (form_refusal unit_form l)
    unfolding judge
    judge_number = form_refused unit_form l (15 if not (ordered (unit_of l)) ∷ []) (fleet_due m (with_unit P (unit_of l)))

    judge_15 : (o : Bool) → forms.good_line unit_form l ≡ true → ordered (unit_of l) ≡ o → judge (unit_due m P) l ≡ found (15 if not o ∷ []) (fleet_due m (with_unit P (unit_of l)))
    unfolding judge
    judge_15 o g e =
        form_found unit_form l (15 if not (ordered (unit_of l)) ∷ []) (fleet_due m (with_unit P (unit_of l))) g
        ∙ ap (λ (x : Bool). found (15 if not x ∷ []) (fleet_due m (with_unit P (unit_of l)))) e

  pub row_number : (m : ℕ) (w : Fault) (P : Instance) → unit_row l at ≡ Err w → judge (unit_due m P) l ≡ refused (fault_number w)
  unfolding unit_row
  row_number m w P = go (forms.good_line unit_form l) refl (ordered (unit_of l)) refl
    where
      go : (g : Bool) → forms.good_line unit_form l ≡ g → (o : Bool) → ordered (unit_of l) ≡ o
          → cond g (cond {A = Result UnitRow Fault} o (Ok (record { next = place_after l at; generator = unit_of l })) (Err Disordered)) (Err (fault_of (form_refusal unit_form l))) ≡ Err w
          → judge (unit_due m P) l ≡ refused (fault_number w)
      go false p o q e = let z : fault_of (form_refusal unit_form l) ≡ w = cc in judge_number m P p ∙ ap refused (sym (fault_is unit_form l p) ∙ ap fault_number z)
      go true p false q e = let z : Disordered ≡ w = cc in judge_15 m P false p q ∙ ap (λ (x : Fault). refused (fault_number x)) z
      go true p true q e = absurd (let z : ◌≡◌ {A = ℕ} 0 1 = cc in omega arith)

  -- a good row: the line is good at its place, and its generator follows those before it
  pub record IsUnit (next : ℕ) (g : Generator) : Type 0 where
    pub formed : forms.good_line unit_form l ≡ true
    pub place : next ≡ place_after l at
    pub unit : g ≡ unit_of l
    pub judged : (m : ℕ) (P : Instance) → judge (unit_due m P) l ≡ good (fleet_due m (with_unit P g))

  pub row_unit : (row : UnitRow) → unit_row l at ≡ Ok row → IsUnit row.next row.generator
  unfolding unit_row
  row_unit row = go (forms.good_line unit_form l) refl (ordered (unit_of l)) refl
    where
      go : (g : Bool) → forms.good_line unit_form l ≡ g → (o : Bool) → ordered (unit_of l) ≡ o
          → cond g (cond {A = Result UnitRow Fault} o (Ok (record { next = place_after l at; generator = unit_of l })) (Err Disordered)) (Err (fault_of (form_refusal unit_form l))) ≡ Ok row → IsUnit row.next row.generator
      go false p o q e = absurd (let z : ◌≡◌ {A = ℕ} 0 1 = cc in omega arith)
      go true p false q e = absurd (let z : ◌≡◌ {A = ℕ} 0 1 = cc in omega arith)
      go true p true q e =
          let z : ◌≡◌ {A = UnitRow} (record { next = place_after l at; generator = unit_of l }) row = cc in
          let g = ap (λ (x : UnitRow). x.generator) z in
          record {
            formed = p;
            place = sym (ap (λ (x : UnitRow). x.next) z);
            unit = sym g;
            judged = λ m P. judge_15 m P true p q ∙ ap (λ (x : Generator). good (fleet_due m (with_unit P x))) g;
          }
