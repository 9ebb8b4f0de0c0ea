-- A ramp leaf, unit by unit: what is read after the lines of its first units, by what their reader answered. And in one period it is read as a price leaf.
use mathlib.Core.Path.{◌≡◌, refl, sym, ap, subst, ◌∙◌}
use mathlib.Core.Bool.{Bool, true, false, cond, ◌&&◌}
use mathlib.Core.List.{List, [], ◌∷◌, ◌++◌}
use Prim.Native.Nat.{ℕ, suc, pred, ◌+◌, ◌-◌, ◌<◌}
use native.Mathlib.Omega.{arith}
use lib.Dec.{eqb}
use lib.IntN.{ℤ}
use lib.ListN.{length, get_or, take}
use borrow.Author.Tests.{ne_eqb}
use Rattle.model.specs.Instance.{Instance, ◌at◌}
use Rattle.model.specs.Above.{Above}
use Rattle.model.specs.Held.{blank_generator}
use Rattle.model.specs.Leaf.{any_stuck}
use Rattle.model.specs.Ramps.{RampPrices, ups, downs, ramp_leaf_value}
use Rattle.std.specs.Prelude.{Some as number}
use Rattle.model.specs.declared.figures.TreeFigures.{TreeFigures}
use Rattle.model.specs.Figures.{add_leaf}
use Rattle.model.specs.Tree.{price, ramp, StepMultipliers, ramped, leaf_bound}
use Rattle.model.proofs.RampLeaf.{ramp_one}
use Rattle.least.specs.UnitLeasts.{Least, ramp_least_of}
use Rattle.std.specs.Prelude.{None, Some, Result, Ok, Err}
use Rattle.leaves.specs.LeafLeasts.{plus_unit, ramp_leaf_of}
use Rattle.text.specs.Lines.{line_at}
use Rattle.text.specs.Forms.{numbers_of, place_after, row_of, good_line, form_tests}
use Rattle.text.specs.declared.Row.{Row}
use Rattle.text.specs.declared.Fault.{Fault}
use Rattle.text.specs.Course.{Found, good}
use Rattle.text.specs.Tests.{◌if◌, found}
use Rattle.text.proofs.Verdicts.{form_refused, form_found}
use Rattle.text.proofs.Plain.{plain_was}
use Rattle.tree.specs.Rendering.{reserve_key, up_key, down_key}
use Rattle.tree.specs.Places.{priced, ramp_priced, with_steps, with_ups}
use Rattle.tree.specs.NodeLines.{leaf_tests}
use Rattle.tree.specs.Refusals.{part_form}
use Rattle.tree.specs.Course.{with_leaf, nodes_due, part_due, after_leaf, after_steps, after_part, tests, next_due, judge}
use Rattle.tree.specs.Acceptance.{Bounded, bounded}
use Rattle.tree.specs.ReadAnswers.{Read, stopped, reached, part_read, Placed}
use Rattle.tree.specs.RampReads.{up_form, down_form, UnitRead, passed, unless_refused, unit_read, ramp_ended}
use Rattle.tree.proofs.Lines.{were_many}
use Rattle.tree.proofs.Rows.{Moved, line_moved, row_good, values_taken}
use Rattle.tree.proofs.StepLines.{one_longer}
use Rattle.tree.proofs.ReadLines.{read_same, moved_placed}
use Rattle.tree.proofs.WaysThrough.{AtPart, part_refused, part_part, part_leaf}
use Rattle.tree.proofs.Leaves.{part_line_refused, part_passed}

-- ---- in one period

one_period : (P : Instance) → P.periods ≡ 1 → ramped P ≡ 0
one_period P e = ap (λ (n : ℕ). cond (eqb n 1) 0 (length P.units)) e

-- the reserve line then says the same of both leaves
pub one_period_read : (P : Instance) → P.periods ≡ 1 → (text : List ℕ) (here l : ℕ) (S : TreeFigures) (A : Above) (q : List ℕ)
    → part_read P text here l S A (priced q) ≡ part_read P text here l S A (ramp_priced q)
unfolding part_read judge tests next_due after_part leaf_tests leaf_bound
one_period_read P e text here l S A q =
    read_same P text here l (part_due (bounded 0 S) A (priced q) []) refl (part_due (bounded 0 S) A (ramp_priced q) []) refl
    (λ i. found (form_tests (part_form P (priced q)) (line_at text here) (35 if (last i && any_stuck P.periods P.units A.marks) ∷ [])) (next i))
  where
    s : List ℕ
    s = numbers_of (part_form P (priced q)) (line_at text here)

    last : true ≡ eqb (ramped P) 0
    last = sym (ap (λ (n : ℕ). eqb n 0) (one_period P e))

    F : Bounded
    F = bounded 0 S

    next : after_leaf P F A [] (price q s) ≡ after_steps P F A [] q s []
    next =
        ap (λ (z : ℤ). nodes_due (with_leaf F (number z)) []) (sym (ramp_one P e A.marks (λ t. q at t) (λ t. s at t) (ups []) (downs [])))
        ∙ ap (λ (b : Bool). cond b (after_leaf P F A [] (ramp q s [])) (part_due F A (with_steps q s []) [])) last

-- ---- in more

-- a good reserve line, where units have lines of their own
pub reserve_read : (P : Instance) → 0 < ramped P → (text : List ℕ) (here : ℕ) (A : Above) (q : List ℕ) (r : Result Row Fault)
    → r ≡ row_of (part_form P (ramp_priced q)) (line_at text here) here → (row : Row) → r ≡ Ok row
    → AtPart P text here A (ramp_priced q) (λ F rest. good (part_due F A (with_steps q (take P.periods row.values) []) rest))
unfolding leaf_tests after_part
reserve_read P some text here A q r is row v F rest =
    let s = numbers_of (part_form P (ramp_priced q)) (line_at text here) in
    let more : eqb (ramped P) 0 ≡ false = ne_eqb (ramped P) 0 (λ e. omega (arith, some, e)) in
    part_passed P text here A (ramp_priced q) (row_good (part_form P (ramp_priced q)) text here r is row v)
    (ap (λ (b : Bool). 35 if (b && any_stuck P.periods P.units A.marks) ∷ []) more) F rest
    ∙ ap (λ (b : Bool). good (cond b (after_leaf P F A rest (ramp q s [])) (part_due F A (with_steps q s []) rest))) more
    ∙ ap (λ (z : List ℕ). good (part_due F A (with_steps q z []) rest)) (sym (values_taken P reserve_key text here r is row v))

-- ---- unit by unit

module _ (P : Instance) (text : List ℕ) (S : TreeFigures) (A : Above) (q s : List ℕ) where
  -- what is read after the lines of the units k, the next line being l at the place `here`: all of the leaf's, or not
  abbrev pub after_units : ℕ → ℕ → List RampPrices → Read
  after_units here l k =
      cond (eqb (ramped P) (length k)) (ramp_ended here l S (ramp_leaf_of P A.marks (λ t. q at t) (λ t. s at t) (ups k) (downs k)))
      (part_read P text here l S A (with_steps q s k))

  module _ (here l u : ℕ) (sum : Least) (k : List RampPrices) where
    abbrev second : ℕ
    second = place_after (line_at text here) here

    abbrev pub x : List ℕ
    x = numbers_of (up_form P) (line_at text here)

    abbrev pub y : List ℕ
    y = numbers_of (down_form P) (line_at text second)

    abbrev k' : List RampPrices
    k' = k ++ (record { up = x; down = y } ∷ [])

    -- what the unit's lines say, and what is then read
    pub record Passed (next : ℕ) (more : Least) : Type 0 where
      pub rises : StepMultipliers P x
      pub falls : StepMultipliers P y
      pub summed : more ≡ plus_unit sum (ramp_least_of P.periods (λ t. q at t) (λ t. s at t) (λ t. x at t) (λ t. y at t) (get_or P.units u blank_generator) (A.marks u))
      pub read : part_read P text here l S A (with_steps q s k) ≡ after_units next (l + 2) k'
      pub placed : Placed text here l S → Placed text next (l + 2) S

    abbrev pub Says : UnitRead → Type 0
    Says (Err b) = part_read P text here l S A (with_steps q s k) ≡ Err b
    Says (Ok r) = Passed r.next r.sum

    module _ (g : good_line (up_form P) (line_at text here) ≡ true) where
      up_moved : Moved text here second
      up_moved = line_moved (up_form P) text here second g refl

      -- past the up line
      past_up : part_read P text here l S A (with_steps q s k) ≡ part_read P text second (l + 1) S A (with_ups q s k x)
      unfolding leaf_tests after_part
      past_up = part_part P text here l S A (with_steps q s k) (with_ups q s k x) second (part_passed P text here A (with_steps q s k) g refl) up_moved

      module _ (h : good_line (down_form P) (line_at text second) ≡ true) where
        abbrev third : ℕ
        third = place_after (line_at text second) second

        down_moved : Moved text second third
        down_moved = line_moved (down_form P) text second third h refl

        abbrev stuck : Bool
        stuck = any_stuck P.periods P.units A.marks

        -- past the down line, by whether it is the last and whether a unit is stuck
        past_down : (last : Bool) → eqb (ramped P) (suc (length k)) ≡ last → (b : Bool) → stuck ≡ b
            → part_read P text second (l + 1) S A (with_ups q s k x)
            ≡ cond last (ramp_ended third (l + 2) S (cond b None (Some (ramp_leaf_value P A.marks (λ t. q at t) (λ t. s at t) (ups k') (downs k'))))) (part_read P text third (l + 2) S A (with_steps q s k'))
        unfolding leaf_tests after_part leaf_bound
        past_down last e b f = go last b e f
          where
            long : eqb (ramped P) (length k') ≡ eqb (ramped P) (suc (length k))
            long = ap (eqb (ramped P)) (one_longer k (record { up = x; down = y }))

            here_is : (last b : Bool) → eqb (ramped P) (suc (length k)) ≡ last → stuck ≡ b
                → AtPart P text second A (with_ups q s k x) (λ F rest. found (35 if (last && b) ∷ []) (cond last (after_leaf P F A rest (ramp q s k')) (part_due F A (with_steps q s k') rest)))
            here_is last b e f F rest =
                part_passed P text second A (with_ups q s k x) h (λ i. 35 if (e i && f i) ∷ []) F rest
                ∙ ap (λ (c : Bool). found (35 if (last && b) ∷ []) (cond c (after_leaf P F A rest (ramp q s k')) (part_due F A (with_steps q s k') rest))) (long ∙ e)

            two : l + 1 + 1 ≡ l + 2
            two = omega arith

            one : l + 1 ≡ l + 2 - 1
            one = omega arith

            go : (last b : Bool) → eqb (ramped P) (suc (length k)) ≡ last → stuck ≡ b
                → part_read P text second (l + 1) S A (with_ups q s k x)
                ≡ cond last (ramp_ended third (l + 2) S (cond b None (Some (ramp_leaf_value P A.marks (λ t. q at t) (λ t. s at t) (ups k') (downs k'))))) (part_read P text third (l + 2) S A (with_steps q s k'))
            go true true e f = sym (part_refused P text second (l + 1) S A (with_ups q s k x) 35 (here_is true true e f)) ∙ ap (stopped 35) one
            go true false e f =
                sym (part_leaf P text second (l + 1) S A (with_ups q s k x) (number (ramp_leaf_value P A.marks (λ t. q at t) (λ t. s at t) (ups k') (downs k'))) third _ (here_is true false e f) down_moved refl)
                ∙ ap (λ (m : ℕ). reached third m (add_leaf S (number (ramp_leaf_value P A.marks (λ t. q at t) (λ t. s at t) (ups k') (downs k'))))) two
            go false b e f =
                part_part P text second (l + 1) S A (with_ups q s k x) (with_steps q s k') third (here_is false b e f) down_moved
                ∙ ap (λ (m : ℕ). part_read P text third m S A (with_steps q s k')) two

        both_passed : Passed third (plus_unit sum (ramp_least_of P.periods (λ t. q at t) (λ t. s at t) (λ t. x at t) (λ t. y at t) (get_or P.units u blank_generator) (A.marks u)))
        both_passed = record {
          rises = were_many (pred P.periods) up_key (line_at text here) (plain_was up_key (pred P.periods) 0 1000000000 (line_at text here) g);
          falls = were_many (pred P.periods) down_key (line_at text second) (plain_was down_key (pred P.periods) 0 1000000000 (line_at text second) h);
          summed = refl;
          read =
              past_up
              ∙ past_down (eqb (ramped P) (suc (length k))) refl stuck refl
              ∙ ap (λ (m : ℕ). cond (eqb (ramped P) m) (ramp_ended third (l + 2) S (ramp_leaf_of P A.marks (λ t. q at t) (λ t. s at t) (ups k') (downs k'))) (part_read P text third (l + 2) S A (with_steps q s k')))
              (sym (one_longer k (record { up = x; down = y })));
          placed = λ p.
              let a = moved_placed text here l S p second up_moved S (omega arith) in
              subst (λ (m : ℕ). Placed text third m S) (let e : l + 1 + 1 ≡ l + 2 = omega arith in e) (moved_placed text second (l + 1) S a third down_moved S (omega arith));
        }

    -- whatever the reader of the two lines answers
    pub unit_says : Says (unit_read P text here l A q s u sum)
    unfolding unit_read
    unit_says = up (good_line (up_form P) (line_at text here)) refl
      where
        last_answer : UnitRead
        last_answer =
            passed (place_after (line_at text second) second)
            (plus_unit sum (ramp_least_of P.periods (λ t. q at t) (λ t. s at t) (λ t. x at t) (λ t. y at t) (get_or P.units u blank_generator) (A.marks u)))

        down : good_line (up_form P) (line_at text here) ≡ true → (b : Bool) → good_line (down_form P) (line_at text second) ≡ b
            → Says (unless_refused (l + 1) (found (form_tests (down_form P) (line_at text second) []) tt) last_answer)
        down g true h = subst (λ (f : Found (Unit {0})). Says (unless_refused (l + 1) f last_answer)) (sym (form_found (down_form P) (line_at text second) [] tt h)) (both_passed g h)
        down g false h =
            subst (λ (f : Found (Unit {0})). Says (unless_refused (l + 1) f last_answer)) (sym (form_refused (down_form P) (line_at text second) [] tt h))
            (past_up g ∙ sym (part_refused P text second (l + 1) S A (with_ups q s k x) _ (part_line_refused P text second A (with_ups q s k x) _ (h, refl))))

        up : (b : Bool) → good_line (up_form P) (line_at text here) ≡ b
            → Says (unless_refused l (found (form_tests (up_form P) (line_at text here) []) tt) (unless_refused (l + 1) (found (form_tests (down_form P) (line_at text second) []) tt) last_answer))
        up true g =
            subst (λ (f : Found (Unit {0})). Says (unless_refused l f (unless_refused (l + 1) (found (form_tests (down_form P) (line_at text second) []) tt) last_answer)))
            (sym (form_found (up_form P) (line_at text here) [] tt g)) (down g (good_line (down_form P) (line_at text second)) refl)
        up false g =
            subst (λ (f : Found (Unit {0})). Says (unless_refused l f (unless_refused (l + 1) (found (form_tests (down_form P) (line_at text second) []) tt) last_answer)))
            (sym (form_refused (up_form P) (line_at text here) [] tt g))
            (sym (part_refused P text here l S A (with_steps q s k) _ (part_line_refused P text here A (with_steps q s k) _ (g, refl))))
