-- The loop over the units of a ramp leaf: what was read of it so far, and what is left to read, give what the whole gives.
use mathlib.Core.Path.{◌≡◌, refl, sym, ap, ap₂, subst, ◌∙◌}
use mathlib.Core.Bool.{Bool, cond}
use mathlib.Core.List.{List, [], ◌∷◌, ◌++◌}
use Prim.Native.Nat.{ℕ, zero, suc, ◌+◌, ◌≤◌, ◌<◌}
use native.Mathlib.Omega.{arith}
use lib.IntN.{ℤ, pos, ◌+ℤ◌}
use lib.ListN.{length, get_or, take, get_or-append}
use lib.Seq.{take-length, get_or_at}
use borrow.Author.Tests.{ne_eqb, eq-eqb}
use Rattle.model.specs.declared.generator.Generator.{Generator}
use Rattle.model.specs.Instance.{Instance, ◌at◌}
use Rattle.model.specs.Ranges.{WellFormed}
use Rattle.model.specs.Above.{Marks, Above, rest}
use Rattle.model.specs.Held.{blank_generator}
use Rattle.model.specs.Leaf.{any_stuck}
use Rattle.model.specs.Ramps.{RampPrices, unpriced, ramp_least, Steps, rest_steps, ups, downs, ramp_leasts}
use Rattle.model.specs.declared.figures.TreeFigures.{TreeFigures}
use Rattle.model.specs.Tree.{ramped}
use Rattle.model.proofs.LeafSizes.{steps_in}
use Rattle.least.specs.UnitLeasts.{Least, ramp_least_of}
use Rattle.std.specs.Prelude.{None, Some, Ok, Err}
use Rattle.least.specs.Limits.{GoodPrices}
use Rattle.least.proofs.Costs.{price_in, reserve_in}
use Rattle.leaves.specs.LeafLeasts.{plus_unit, ramp_leasts_of, ramp_leaf_of}
use Rattle.leaves.specs.Limits.{SmallLeast}
use Rattle.leaves.proofs.RampUnits.{plus_unit_is, plus_requirement_is, ramp_front_small}
use Rattle.tree.specs.declared.read.BrokenLine.{BrokenLine}
use Rattle.tree.specs.declared.ramp.UnitLines.{UnitLines}
use Rattle.tree.specs.Places.{with_steps}
use Rattle.tree.specs.ReadAnswers.{Read, part_read, Placed}
use Rattle.tree.specs.RampReads.{unit_read, with_required, ramp_ended}
use Rattle.tree.proofs.NodeLines.{GoodSteps, good_more_steps}
use Rattle.tree.proofs.StepLines.{one_longer}
use Rattle.tree.proofs.RampLeaves.{after_units, x, y, Passed, Says, unit_says}

-- ---- the units before, when one more has its lines

leasts_same : (n : ℕ) (q s : ℕ → ℕ) (x x' y y' : Steps) (gs : List Generator) (m : Marks) → ((v : ℕ) → v < length gs → (x v ≡ x' v) × (y v ≡ y' v))
    → ramp_leasts n q s x y gs m ≡ ramp_leasts n q s x' y' gs m
unfolding ramp_leasts
leasts_same n q s x x' y y' [] m h = refl
leasts_same n q s x x' y y' (g ∷ gs) m h =
    let e = h 0 (omega arith) in
    ap₂ ◌+ℤ◌ (ap₂ (λ (a b : ℕ → ℕ). ramp_least n q s a b g (m 0)) e.0 e.1)
    (leasts_same n q s (rest_steps x) (rest_steps x') (rest_steps y) (rest_steps y') gs (rest m) (λ v l. h (suc v) (omega arith)))

module _ (k : List RampPrices) (z : RampPrices) where
  one_of_them : (v : ℕ) → v < length k → get_or k v unpriced ≡ get_or (k ++ (z ∷ [])) v unpriced
  one_of_them v l = sym (get_or-append k (z ∷ []) unpriced v l)

  the_last : get_or (k ++ (z ∷ [])) (length k) unpriced ≡ z
  the_last = get_or_at k z [] unpriced (length k) refl

-- the first u units of a list
front_long : {A : Type 0} (u : ℕ) (l : List A) → length (take u l) ≤ u
front_long zero l = omega arith
front_long (suc u) [] = omega arith
front_long (suc u) (x ∷ l) = omega (arith, front_long u l)

module _ (P : Instance) (text : List ℕ) (S : TreeFigures) (A : Above) (q s : List ℕ) where
  abbrev leasts : List RampPrices → ℕ → Least
  leasts k u = ramp_leasts_of P.periods (λ t. q at t) (λ t. s at t) (ups k) (downs k) (take u P.units) A.marks

  -- the lines of u units are read, the next line being l at the place `here`; `whole` is what is read of the leaf
  pub record Reading (whole : Read) (u here l : ℕ) (sum : Least) : Type 0 where
    pub said : List RampPrices
    pub many : length said ≡ u
    pub fine : GoodSteps P said
    pub summed : sum ≡ leasts said u
    pub read : whole ≡ after_units P text S A q s here l said
    pub placed : Placed text here l S
    pub lines : u + u ≤ l

module _ (P : Instance) (W : WellFormed P) (two : 2 ≤ P.periods) (text : List ℕ) (S : TreeFigures) (A : Above) (q s : List ℕ) (goods : GoodPrices P.periods q s) where
  -- every unit has lines of its own
  pub all_ramped : ramped P ≡ length P.units
  all_ramped = ap (λ (b : Bool). cond b 0 (length P.units)) (ne_eqb P.periods 1 (λ e. omega (arith, two, e)))

  -- none yet
  pub reading_none : (here l : ℕ) → Placed text here l S → (sum : Least) → sum ≡ Some (pos 0) → Reading P text S A q s (part_read P text here l S A (with_steps q s [])) 0 here l sum
  unfolding ramp_leasts
  reading_none here l p sum e = record {
    said = [];
    many = refl;
    fine = tt;
    summed = e;
    read =
        ap (λ (b : Bool). cond b (ramp_ended here l S (ramp_leaf_of P A.marks (λ t. q at t) (λ t. s at t) (ups []) (downs []))) (part_read P text here l S A (with_steps q s [])))
        (sym (ne_eqb (ramped P) 0 (λ z. omega (arith, z, all_ramped, W.units_in.0))));
    placed = p;
    lines = omega arith;
  }

  module _ {whole : Read} {u here l : ℕ} {sum : Least} (R : Reading P text S A q s whole u here l sum) where
    -- what the units answer leaves room for a sum
    pub reading_small : SmallLeast sum
    reading_small =
        subst SmallLeast (sym R.summed)
        (ramp_front_small P.periods W.periods_in.1 (λ t. q at t) (λ t. s at t) (λ t i. price_in P.periods q s goods t) (λ t i. reserve_in P.periods q s goods t)
        (ups R.said) (downs R.said) (λ v t. (steps_in P R.said R.fine v t).0) (λ v t. (steps_in P R.said R.fine v t).1) u P.units W.units_good W.units_in.1 A.marks)

    module _ (left : u < length P.units) where
      -- the next unit's lines are due
      next_due : whole ≡ part_read P text here l S A (with_steps q s R.said)
      next_due =
          R.read
          ∙ ap (λ (b : Bool). cond b (ramp_ended here l S (ramp_leaf_of P A.marks (λ t. q at t) (λ t. s at t) (ups R.said) (downs R.said))) (part_read P text here l S A (with_steps q s R.said)))
          (ne_eqb (ramped P) (length R.said) (λ e. omega (arith, e, all_ramped, R.many, left)))

      -- a line of it is refused
      pub reading_stopped : (b : BrokenLine) → Err b ≡ unit_read P text here l A q s u sum → Err b ≡ whole
      reading_stopped b e = sym (next_due ∙ subst (Says P text S A q s here l u sum R.said) (sym e) (unit_says P text S A q s here l u sum R.said))

      -- both are read
      pub reading_more : (r : UnitLines) → Ok r ≡ unit_read P text here l A q s u sum → Reading P text S A q s whole (u + 1) r.next (l + 2) r.sum
      reading_more r e =
          let k = R.said in
          let p : Passed P text S A q s here l u sum k r.next r.sum = subst (Says P text S A q s here l u sum k) (sym e) (unit_says P text S A q s here l u sum k) in
          let z : RampPrices = record { up = x P text S A q s here l u sum k; down = y P text S A q s here l u sum k } in
          record {
            said = k ++ (z ∷ []);
            many = omega (arith, one_longer k z, R.many);
            fine = good_more_steps P k z R.fine p.rises p.falls;
            summed = p.summed ∙ added z;
            read = next_due ∙ p.read;
            placed = p.placed R.placed;
            lines = omega (arith, R.lines);
          }
        where
          added : (z : RampPrices)
              → plus_unit sum (ramp_least_of P.periods (λ t. q at t) (λ t. s at t) (λ t. z.up at t) (λ t. z.down at t) (get_or P.units u blank_generator) (A.marks u))
              ≡ leasts P text S A q s (R.said ++ (z ∷ [])) (u + 1)
          added z =
              let k = R.said in
              let k' = k ++ (z ∷ []) in
              let n = P.periods in
              let Q : ℕ → ℕ = λ t. q at t in
              let R' : ℕ → ℕ = λ t. s at t in
              let g = get_or P.units u blank_generator in
              let gs = take u P.units in
              let before : leasts P text S A q s k u ≡ ramp_leasts_of n Q R' (ups k') (downs k') gs A.marks =
              ap (λ (v : ℤ). cond (any_stuck n gs A.marks) None (Some v))
              (leasts_same n Q R' (ups k) (ups k') (downs k) (downs k') gs A.marks (λ v i.
              let o = one_of_them k z v (omega (arith, i, front_long u P.units, R.many)) in
              (ap {B = ℕ → ℕ} (λ (r : RampPrices) (t : ℕ). r.up at t) o, ap {B = ℕ → ℕ} (λ (r : RampPrices) (t : ℕ). r.down at t) o))) in
              let it : z ≡ get_or k' u unpriced = sym (ap (λ (i : ℕ). get_or k' i unpriced) (sym R.many) ∙ the_last k z) in
              ap₂ plus_unit (R.summed ∙ before) (ap (λ (r : RampPrices). ramp_least_of n Q R' (λ t. r.up at t) (λ t. r.down at t) g (A.marks u)) it)
              ∙ plus_unit_is n Q R' (ups k') (downs k') u P.units blank_generator A.marks left

    -- all units have their lines
    pub reading_done : u ≡ length P.units → ramp_ended here l S (with_required P q s sum) ≡ whole
    reading_done e =
        let k = R.said in
        let all : take u P.units ≡ P.units = rw e (take-length P.units) in
        ap (λ (x : Least). ramp_ended here l S (with_required P q s x))
        (R.summed ∙ ap (λ (gs : List Generator). ramp_leasts_of P.periods (λ t. q at t) (λ t. s at t) (ups k) (downs k) gs A.marks) all)
        ∙ ap (ramp_ended here l S) (plus_requirement_is P A.marks (λ t. q at t) (λ t. s at t) (ups k) (downs k))
        ∙ sym (R.read
        ∙ ap (λ (b : Bool). cond b (ramp_ended here l S (ramp_leaf_of P A.marks (λ t. q at t) (λ t. s at t) (ups k) (downs k))) (part_read P text here l S A (with_steps q s k)))
        (eq-eqb (ramped P) (length k) (omega (arith, all_ramped, R.many, e))))
