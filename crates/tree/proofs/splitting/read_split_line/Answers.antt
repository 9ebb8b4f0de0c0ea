-- The line's two numbers less 1 are the unit and the period, whose status has a place among the bytes.
use mathlib.Core.Path.{◌≡◌, refl, ap, ◌∙◌}
use mathlib.Core.Bool.{true, cond}
use mathlib.Core.List.{List, [], ◌∷◌}
use Prim.Native.Nat.{ℕ, ◌+◌, ◌*◌, ◌-◌, ◌<◌}
use native.Mathlib.Omega.{arith}
use lib.Dec.{ltb}
use lib.ListN.{length}
use borrow.Author.Tests.{lt-ltb}
use Rattle.std.specs.Prelude.{Result, Ok, Err}
use Rattle.std.proofs.lemmas.Result.{err_from_is_err_and}
use Rattle.model.specs.Instance.{Instance, ◌at◌}
use Rattle.model.specs.Ranges.{WellFormed}
use Rattle.layout.specs.Numbers.{instance_in}
use Rattle.walk.specs.Marks.{above_of}
use Rattle.text.specs.Lines.{line_at}
use Rattle.text.specs.Forms.{form, verdict_of, all_below}
use Rattle.text.specs.Scan.{stored_at}
use Rattle.text.specs.declared.Fault.{Fault}
use Rattle.text.proofs.Fills.{Filled, filled}
use Rattle.text.proofs.Verdicts.{ruled_refused}
use Rattle.walk.proofs.AboveMarks.{marks_same}
use Rattle.tree.specs.declared.forking.ForkKind.TheVariants.{Split}
use Rattle.tree.specs.Rendering.{split_key}
use Rattle.tree.specs.Refusals.{split_line, node_form}
use Rattle.tree.specs.NodeLines.{is_fixed}
use Rattle.tree.specs.Coded.{split_refusal}
use Rattle.tree.proofs.Keys.{split_begins}
use Rattle.tree.proofs.Places.{place_inside}
use Rattle.tree.proofs.ForkLines.{split_values, fork_refused, split_fails, split_good}
use Rattle.tree.proofs.splitting.read_split_line.Goals as goal

-- neither count has too many digits
counts-low : (P : Instance) → WellFormed P → all_below (length P.units ∷ P.periods ∷ []) ≡ true
counts-low P W =
    let a = W.units_in in
    let b = W.periods_in in
    simp (lt-ltb (length P.units) 10000000000 (omega arith), lt-ltb P.periods 10000000000 (omega arith))

module _ (P : Instance) (text : List ℕ) (here : ℕ) where
  -- the verdict is that of a split line of the problem, u and t being its units and periods
  is_split : {u t : ℕ} → u ≡ length P.units → t ≡ P.periods → (v : Result ℕ Fault) → v ≡ verdict_of (form split_key 0 (1 ∷ 1 ∷ []) (u ∷ t ∷ [])) (line_at text here) here
      → v ≡ verdict_of (node_form P split_line) (line_at text here) here
  is_split e f v h = h ∙ (λ i. verdict_of (form split_key 0 (1 ∷ 1 ∷ []) (e i ∷ f i ∷ [])) (line_at text here) here)

  -- what a good line leaves
  left : WellFormed P → (v : Result ℕ Fault) → v ≡ verdict_of (node_form P split_line) (line_at text here) here → {next : ℕ} → v ≡ Ok next → {out : List ℕ}
      → out ≡ stored_at split_key text here (0 ∷ 0 ∷ []) → Filled (node_form P split_line) (line_at text here) here next out
  left W v is good stored = filled split_key (1 ∷ 1 ∷ []) (length P.units ∷ P.periods ∷ []) text (0 ∷ 0 ∷ []) here refl (counts-low P W) refl stored is good

-- the number by the model's marks
number_is : (P : Instance) (bytes : List ℕ) (n U t d : ℕ) → n ≡ P.periods → U < length P.units → t < P.periods →
    split_refusal bytes (U * n + t) d ≡ cond (is_fixed ((above_of P bytes).marks U t)) (Err 31) (cond (ltb 63 d) (Err 32) (Ok tt))
unfolding split_refusal
number_is P bytes n U t d e h k =
    ap (λ (n : ℕ). split_refusal bytes (U * n + t) d) e
    ∙ ap (λ (m : _). cond (is_fixed m) (Err 31) (cond (ltb 63 d) (Err 32) (Ok tt))) (marks_same (length P.units) P.periods bytes U h t k)

pub fill_line-requires : goal.fill_line-requires
fill_line-requires c =
    let low = counts-low (instance_in c.args.plan.numbers.now) c.args.plan.laid.well_formed in
    record { key_value = (refl, (omega arith, (refl, (rw (c.units-units.ensures, c.periods-periods.ensures) low, refl)))); s_value = split_begins c.args.text.now c.args.at c.requires.at_value }

pub returns-in_err-next : goal.returns-in_err-next
returns-in_err-next c =
    let a = c.args in
    let P = instance_in a.plan.numbers.now in
    let A = above_of P a.above.now in
    let is = is_split P a.text.now a.at c.units-units.ensures c.periods-periods.ensures c.fill_line.result c.fill_line.ensures.answer in
    let p = err_from_is_err_and c.from_residual.result c.from_residual.ensures.1 in
    rw (p.1, p.2) (fork_refused P a.text.now a.at A a.depth Split _ (ruled_refused (node_form P split_line) (line_at a.text.now a.at) a.at c.fill_line.result is _ c.in_err-next.was))

pub overflow_sub-unit : goal.overflow_sub-unit
overflow_sub-unit c =
    let a = c.args in
    let P = instance_in a.plan.numbers.now in
    let A = above_of P a.above.now in
    let is = is_split P a.text.now a.at c.units-units.ensures c.periods-periods.ensures c.fill_line.result c.fill_line.ensures.answer in
    let g = left P a.text.now a.at c.args.plan.laid.well_formed c.fill_line.result is c.in_ok-next.was c.fill_line.ensures.stored in
    let vs = c.fill_line.new.out in
    let w = split_values P a.text.now a.at g.line_good vs g.values in
    w.low_unit

pub overflow_sub-period : goal.overflow_sub-period
overflow_sub-period c =
    let a = c.args in
    let P = instance_in a.plan.numbers.now in
    let A = above_of P a.above.now in
    let is = is_split P a.text.now a.at c.units-units.ensures c.periods-periods.ensures c.fill_line.result c.fill_line.ensures.answer in
    let g = left P a.text.now a.at c.args.plan.laid.well_formed c.fill_line.result is c.in_ok-next.was c.fill_line.ensures.stored in
    let vs = c.fill_line.new.out in
    let w = split_values P a.text.now a.at g.line_good vs g.values in
    w.low_period

pub overflow_mul-place : goal.overflow_mul-place
overflow_mul-place c =
    let a = c.args in
    let P = instance_in a.plan.numbers.now in
    let A = above_of P a.above.now in
    let is = is_split P a.text.now a.at c.units-units.ensures c.periods-periods.ensures c.fill_line.result c.fill_line.ensures.answer in
    let g = left P a.text.now a.at c.args.plan.laid.well_formed c.fill_line.result is c.in_ok-next.was c.fill_line.ensures.stored in
    let vs = c.fill_line.new.out in
    let w = split_values P a.text.now a.at g.line_good vs g.values in
    let k = place_inside P c.args.plan.laid.well_formed c.periods-periods.result (vs at 0 - 1) (vs at 1 - 1) c.periods-periods.ensures w.unit w.period in
    let long = c.requires.above_len in
    omega (arith, k)

pub overflow_add-place : goal.overflow_add-place
overflow_add-place c =
    let a = c.args in
    let P = instance_in a.plan.numbers.now in
    let A = above_of P a.above.now in
    let is = is_split P a.text.now a.at c.units-units.ensures c.periods-periods.ensures c.fill_line.result c.fill_line.ensures.answer in
    let g = left P a.text.now a.at c.args.plan.laid.well_formed c.fill_line.result is c.in_ok-next.was c.fill_line.ensures.stored in
    let vs = c.fill_line.new.out in
    let w = split_values P a.text.now a.at g.line_good vs g.values in
    let k = place_inside P c.args.plan.laid.well_formed c.periods-periods.result (vs at 0 - 1) (vs at 1 - 1) c.periods-periods.ensures w.unit w.period in
    let long = c.requires.above_len in
    omega (arith, k)

pub refuse_split-requires : goal.refuse_split-requires
refuse_split-requires c =
    let a = c.args in
    let P = instance_in a.plan.numbers.now in
    let A = above_of P a.above.now in
    let is = is_split P a.text.now a.at c.units-units.ensures c.periods-periods.ensures c.fill_line.result c.fill_line.ensures.answer in
    let g = left P a.text.now a.at c.args.plan.laid.well_formed c.fill_line.result is c.in_ok-next.was c.fill_line.ensures.stored in
    let vs = c.fill_line.new.out in
    let w = split_values P a.text.now a.at g.line_good vs g.values in
    let k = place_inside P c.args.plan.laid.well_formed c.periods-periods.result (vs at 0 - 1) (vs at 1 - 1) c.periods-periods.ensures w.unit w.period in
    let long = c.requires.above_len in
    omega (arith, k, long)

pub returns-in_err-refuse_split : goal.returns-in_err-refuse_split
returns-in_err-refuse_split c =
    let a = c.args in
    let P = instance_in a.plan.numbers.now in
    let A = above_of P a.above.now in
    let is = is_split P a.text.now a.at c.units-units.ensures c.periods-periods.ensures c.fill_line.result c.fill_line.ensures.answer in
    let g = left P a.text.now a.at c.args.plan.laid.well_formed c.fill_line.result is c.in_ok-next.was c.fill_line.ensures.stored in
    let vs = c.fill_line.new.out in
    let w = split_values P a.text.now a.at g.line_good vs g.values in
    let p = err_from_is_err_and c.from_residual-in_err-refuse_split.result c.from_residual-in_err-refuse_split.ensures.1 in
    rw (p.1, p.2) (split_fails P a.text.now a.at A a.depth g.line_good vs g.values c.refuse_split.result
    (c.refuse_split.ensures ∙ number_is P a.above.now _ (vs at 0 - 1) (vs at 1 - 1) a.depth c.periods-periods.ensures w.unit w.period) _ c.in_err-refuse_split.was)

pub returns : goal.returns
returns c =
    let a = c.args in
    let P = instance_in a.plan.numbers.now in
    let A = above_of P a.above.now in
    let is = is_split P a.text.now a.at c.units-units.ensures c.periods-periods.ensures c.fill_line.result c.fill_line.ensures.answer in
    let g = left P a.text.now a.at c.args.plan.laid.well_formed c.fill_line.result is c.in_ok-next.was c.fill_line.ensures.stored in
    let vs = c.fill_line.new.out in
    let w = split_values P a.text.now a.at g.line_good vs g.values in
    split_good P a.text.now a.at A a.depth g.line_good vs g.values c.refuse_split.result
    (c.refuse_split.ensures ∙ number_is P a.above.now _ (vs at 0 - 1) (vs at 1 - 1) a.depth c.periods-periods.ensures w.unit w.period) _ c.in_ok-refuse_split.was
    _ c.in_ok-next.next c.periods-periods.ensures g.next_is
