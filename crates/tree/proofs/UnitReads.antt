-- The two lines of a unit of a ramp leaf, as its reader answers them: one law for each way through the code.
use mathlib.Core.Path.{◌≡◌, refl, sym, ap, ap₂, ◌∙◌}
use mathlib.Core.Bool.{true, cond}
use mathlib.Core.List.{List, []}
use Prim.Native.Nat.{ℕ, pred, ◌+◌}
use lib.IntN.{ℤ}
use lib.ListN.{get_or}
use Rattle.model.specs.declared.generator.Generator.{Generator}
use Rattle.model.specs.Instance.{Instance, ◌at◌}
use Rattle.model.specs.Ranges.{GoodUnit}
use Rattle.model.specs.Above.{Mark, Above}
use Rattle.model.specs.Held.{blank_generator}
use Rattle.model.specs.Leaf.{is_stuck}
use Rattle.model.proofs.Extents.{Same, ramp_least_ext}
use Rattle.least.specs.UnitLeasts.{Least, ramp_least_of}
use Rattle.std.specs.Prelude.{None, Some, Result, Ok, Err}
use Rattle.leaves.specs.LeafLeasts.{plus_unit}
use Rattle.text.specs.Lines.{line_at}
use Rattle.text.specs.Forms.{numbers_of, place_after, fault_number, verdict_of, good_line, form_tests}
use Rattle.text.specs.Course.{Found}
use Rattle.text.specs.Tests.{found}
use Rattle.text.specs.declared.Fault.{Fault}
use Rattle.text.proofs.Verdicts.{ruled_refused, ruled_good, form_found}
use Rattle.tree.specs.ReadAnswers.{broken}
use Rattle.tree.specs.RampReads.{up_form, down_form, UnitRead, passed, unless_refused, unit_read}
use Rattle.tree.proofs.Rows.{refused_found}

-- a unit's answer reads no multiplier past the last step
pub unit_same : (n : ℕ) (q s x x' y y' : ℕ → ℕ) (g : Generator) (m : ℕ → Mark) → GoodUnit g → Same (pred n) x x' → Same (pred n) y y'
    → ramp_least_of n q s x y g m ≡ ramp_least_of n q s x' y' g m
unit_same n q s x x' y y' g m fine hx hy =
    ap (λ (z : ℤ). cond (is_stuck n g m) None (Some z))
    (ramp_least_ext n g m m (λ t l. refl) fine q q s s x x' y y' (λ t l. refl) (λ t l. refl) hx hy)

module _ (P : Instance) (text : List ℕ) (here l : ℕ) (A : Above) (q s : List ℕ) (u : ℕ) (sum : Least) where
  abbrev up_at : ℕ → ℕ
  up_at t = numbers_of (up_form P) (line_at text here) at t

  -- the answer that the down line gives
  abbrev rest : ℕ → Found (Unit {0}) → UnitRead
  rest next f =
      let y = line_at text next in
      unless_refused (l + 1) f (passed (place_after y next)
      (plus_unit sum (ramp_least_of P.periods (λ t. q at t) (λ t. s at t) up_at (λ t. numbers_of (down_form P) y at t) (get_or P.units u blank_generator) (A.marks u))))

  module _ (v : Result ℕ Fault) (is : v ≡ verdict_of (up_form P) (line_at text here) here) where
    pub up_refused : (fault : Fault) → v ≡ Err fault → Err (broken (fault_number fault) l) ≡ unit_read P text here l A q s u sum
    unfolding unit_read
    up_refused fault e =
        let next = place_after (line_at text here) here in
        ap (λ (f : Found (Unit {0})). unless_refused l f (rest next (found (form_tests (down_form P) (line_at text next) []) tt)))
        (sym (refused_found (up_form P) (line_at text here) (fault_number fault) [] tt (ruled_refused (up_form P) (line_at text here) here v is fault e)))

    module _ (next : ℕ) (e : v ≡ Ok next) where
      up_good : good_line (up_form P) (line_at text here) ≡ true
      up_good = (ruled_good (up_form P) (line_at text here) here v is next e).0

      next_is : next ≡ place_after (line_at text here) here
      next_is = (ruled_good (up_form P) (line_at text here) here v is next e).1

      past_up : rest next (found (form_tests (down_form P) (line_at text next) []) tt) ≡ unit_read P text here l A q s u sum
      unfolding unit_read
      past_up =
          ap (λ (k : ℕ). rest k (found (form_tests (down_form P) (line_at text k) []) tt)) next_is
          ∙ ap (λ (f : Found (Unit {0})). unless_refused l f (rest (place_after (line_at text here) here) (found (form_tests (down_form P) (line_at text (place_after (line_at text here) here)) []) tt)))
          (sym (form_found (up_form P) (line_at text here) [] tt up_good))

      module _ (w : Result ℕ Fault) (js : w ≡ verdict_of (down_form P) (line_at text next) next) where
        pub down_refused : (fault : Fault) → w ≡ Err fault → Err (broken (fault_number fault) (l + 1)) ≡ unit_read P text here l A q s u sum
        down_refused fault d =
            ap (rest next) (sym (refused_found (down_form P) (line_at text next) (fault_number fault) [] tt (ruled_refused (down_form P) (line_at text next) next w js fault d))) ∙ past_up

        pub both_good : (then : ℕ) → w ≡ Ok then → (x y : ℕ → ℕ) → GoodUnit (get_or P.units u blank_generator)
            → Same (pred P.periods) x up_at → Same (pred P.periods) y (λ t. numbers_of (down_form P) (line_at text next) at t) → (r : Least)
            → r ≡ plus_unit sum (ramp_least_of P.periods (λ t. q at t) (λ t. s at t) x y (get_or P.units u blank_generator) (A.marks u))
            → passed then r ≡ unit_read P text here l A q s u sum
        both_good then d x y fine hx hy r a =
            let g = ruled_good (down_form P) (line_at text next) next w js then d in
            ap₂ (λ (k : ℕ) (z : Least). passed k z) g.1
            (a ∙ ap (plus_unit sum) (unit_same P.periods (λ t. q at t) (λ t. s at t) x up_at y (λ t. numbers_of (down_form P) (line_at text next) at t) (get_or P.units u blank_generator) (A.marks u) fine hx hy))
            ∙ ap (rest next) (sym (form_found (down_form P) (line_at text next) [] tt g.0))
            ∙ past_up
