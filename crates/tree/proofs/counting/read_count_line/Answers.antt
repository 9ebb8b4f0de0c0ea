-- The line's first number less 1 is the period and its second the count; the bytes of its two sides have their places after the statuses.
use mathlib.Core.Path.{◌≡◌, refl, ◌∙◌}
use mathlib.Core.Bool.{true, cond}
use mathlib.Core.List.{List, [], ◌∷◌}
use Prim.Native.Nat.{ℕ, ◌-◌, ◌<◌}
use native.Mathlib.Omega.{arith}
use lib.Dec.{ltb}
use lib.ListN.{length}
use borrow.Author.Tests.{lt-ltb}
use Rattle.std.specs.Prelude.{Result, Ok, Err}
use Rattle.std.proofs.lemmas.Result.{err_from_is_err_and}
use Rattle.model.specs.Instance.{Instance, ◌at◌}
use Rattle.model.specs.Ranges.{WellFormed}
use Rattle.layout.specs.Numbers.{instance_in}
use Rattle.walk.specs.Marks.{above_of}
use Rattle.text.specs.Lines.{line_at}
use Rattle.text.specs.Forms.{form, verdict_of, all_below}
use Rattle.text.specs.Scan.{stored_at}
use Rattle.text.specs.declared.Fault.{Fault}
use Rattle.text.proofs.Fills.{Filled, filled}
use Rattle.text.proofs.Verdicts.{ruled_refused}
use Rattle.walk.specs.Marks.{most_in, least_in}
use Rattle.tree.specs.declared.forking.ForkKind.TheVariants.{Count}
use Rattle.tree.specs.Rendering.{count_key}
use Rattle.tree.specs.Refusals.{count_line, node_form}
use Rattle.tree.specs.NodeLines.{narrows}
use Rattle.tree.specs.Coded.{count_refusal}
use Rattle.tree.proofs.Keys.{count_begins}
use Rattle.tree.proofs.ForkLines.{count_values, fork_refused, count_fails, count_good}
use Rattle.tree.proofs.counting.read_count_line.Goals as goal

-- neither end of a range has too many digits
ends_low : (P : Instance) → WellFormed P → all_below (P.periods ∷ (length P.units - 1) ∷ []) ≡ true
ends_low P W =
    let a = W.units_in in
    let b = W.periods_in in
    simp (lt-ltb P.periods 10000000000 (omega arith), lt-ltb (length P.units - 1) 10000000000 (omega arith))

module _ (P : Instance) (text : List ℕ) (here : ℕ) where
  -- the verdict is that of a count line of the problem, u and t being its units and periods
  is_count : {u t : ℕ} → u ≡ length P.units → t ≡ P.periods → (v : Result ℕ Fault) → v ≡ verdict_of (form count_key 0 (1 ∷ 0 ∷ []) (t ∷ (u - 1) ∷ [])) (line_at text here) here
      → v ≡ verdict_of (node_form P count_line) (line_at text here) here
  is_count e f v h = h ∙ (λ i. verdict_of (form count_key 0 (1 ∷ 0 ∷ []) (f i ∷ (e i - 1) ∷ [])) (line_at text here) here)

  -- what a good line leaves
  left : WellFormed P → (v : Result ℕ Fault) → v ≡ verdict_of (node_form P count_line) (line_at text here) here → {next : ℕ} → v ≡ Ok next → {out : List ℕ}
      → out ≡ stored_at count_key text here (0 ∷ 0 ∷ []) → Filled (node_form P count_line) (line_at text here) here next out
  left W v is good stored = filled count_key (1 ∷ 0 ∷ []) (P.periods ∷ (length P.units - 1) ∷ []) text (0 ∷ 0 ∷ []) here refl (ends_low P W) refl stored is good

-- the number by the counts that stand
number_is : (P : Instance) (bytes : List ℕ) (t K d : ℕ) → t < P.periods → let A = above_of P bytes in
    count_refusal bytes t K d ≡ cond (ltb 63 d) (Err 32) (cond (narrows (A.least t) (A.most t) K) (Ok tt) (Err 37))
unfolding count_refusal most_in least_in
number_is P bytes t K d h = rw (lt-ltb t P.periods h) refl

pub fill_line-requires : goal.fill_line-requires
fill_line-requires c =
    let low = ends_low (instance_in c.args.plan.numbers.now) c.args.plan.laid.well_formed in
    record { key_value = (refl, (omega arith, (refl, (rw (c.units-units.ensures, c.periods-periods.ensures) low, refl)))); s_value = count_begins c.args.text.now c.args.at c.requires.at_value }

pub returns-in_err-next : goal.returns-in_err-next
returns-in_err-next c =
    let a = c.args in
    let P = instance_in a.plan.numbers.now in
    let A = above_of P a.above.now in
    let is = is_count P a.text.now a.at c.units-units.ensures c.periods-periods.ensures c.fill_line.result c.fill_line.ensures.answer in
    let p = err_from_is_err_and c.from_residual.result c.from_residual.ensures.1 in
    rw (p.1, p.2) (fork_refused P a.text.now a.at A a.depth Count _ (ruled_refused (node_form P count_line) (line_at a.text.now a.at) a.at c.fill_line.result is _ c.in_err-next.was))

pub overflow_sub-period : goal.overflow_sub-period
overflow_sub-period c =
    let a = c.args in
    let P = instance_in a.plan.numbers.now in
    let A = above_of P a.above.now in
    let is = is_count P a.text.now a.at c.units-units.ensures c.periods-periods.ensures c.fill_line.result c.fill_line.ensures.answer in
    let g = left P a.text.now a.at c.args.plan.laid.well_formed c.fill_line.result is c.in_ok-next.was c.fill_line.ensures.stored in
    let w = count_values P a.text.now a.at g.line_good c.fill_line.new.out g.values in
    w.low_period

pub overflow_cast-count : goal.overflow_cast-count
overflow_cast-count c =
    let a = c.args in
    let P = instance_in a.plan.numbers.now in
    let A = above_of P a.above.now in
    let is = is_count P a.text.now a.at c.units-units.ensures c.periods-periods.ensures c.fill_line.result c.fill_line.ensures.answer in
    let g = left P a.text.now a.at c.args.plan.laid.well_formed c.fill_line.result is c.in_ok-next.was c.fill_line.ensures.stored in
    let w = count_values P a.text.now a.at g.line_good c.fill_line.new.out g.values in
    let k = c.args.plan.laid.well_formed.units_in in
    omega (arith, w.few, k.1)

pub refuse_count-requires : goal.refuse_count-requires
refuse_count-requires c =
    let a = c.args in
    let P = instance_in a.plan.numbers.now in
    let A = above_of P a.above.now in
    let is = is_count P a.text.now a.at c.units-units.ensures c.periods-periods.ensures c.fill_line.result c.fill_line.ensures.answer in
    let g = left P a.text.now a.at c.args.plan.laid.well_formed c.fill_line.result is c.in_ok-next.was c.fill_line.ensures.stored in
    let w = count_values P a.text.now a.at g.line_good c.fill_line.new.out g.values in
    let few = c.args.plan.laid.well_formed.periods_in.1 in
    (omega (arith, w.period, few), c.requires.above_len)

pub returns-in_err-refuse_count : goal.returns-in_err-refuse_count
returns-in_err-refuse_count c =
    let a = c.args in
    let P = instance_in a.plan.numbers.now in
    let A = above_of P a.above.now in
    let is = is_count P a.text.now a.at c.units-units.ensures c.periods-periods.ensures c.fill_line.result c.fill_line.ensures.answer in
    let g = left P a.text.now a.at c.args.plan.laid.well_formed c.fill_line.result is c.in_ok-next.was c.fill_line.ensures.stored in
    let w = count_values P a.text.now a.at g.line_good c.fill_line.new.out g.values in
    let p = err_from_is_err_and c.from_residual-in_err-refuse_count.result c.from_residual-in_err-refuse_count.ensures.1 in
    let vs = c.fill_line.new.out in
    rw (p.1, p.2) (count_fails P a.text.now a.at A a.depth g.line_good vs g.values c.refuse_count.result
    (c.refuse_count.ensures ∙ number_is P a.above.now (vs at 0 - 1) (vs at 1) a.depth w.period) _ c.in_err-refuse_count.was)

pub overflow_add-byte : goal.overflow_add-byte
overflow_add-byte c =
    let a = c.args in
    let P = instance_in a.plan.numbers.now in
    let A = above_of P a.above.now in
    let is = is_count P a.text.now a.at c.units-units.ensures c.periods-periods.ensures c.fill_line.result c.fill_line.ensures.answer in
    let g = left P a.text.now a.at c.args.plan.laid.well_formed c.fill_line.result is c.in_ok-next.was c.fill_line.ensures.stored in
    let w = count_values P a.text.now a.at g.line_good c.fill_line.new.out g.values in
    let k = c.args.plan.laid.well_formed.units_in in
    omega (arith, w.few, k.1)

pub overflow_add-first : goal.overflow_add-first
overflow_add-first c =
    let a = c.args in
    let P = instance_in a.plan.numbers.now in
    let A = above_of P a.above.now in
    let is = is_count P a.text.now a.at c.units-units.ensures c.periods-periods.ensures c.fill_line.result c.fill_line.ensures.answer in
    let g = left P a.text.now a.at c.args.plan.laid.well_formed c.fill_line.result is c.in_ok-next.was c.fill_line.ensures.stored in
    let w = count_values P a.text.now a.at g.line_good c.fill_line.new.out g.values in
    let few = c.args.plan.laid.well_formed.periods_in.1 in
    omega (arith, w.period, few)

pub overflow_add-second : goal.overflow_add-second
overflow_add-second c =
    let a = c.args in
    let P = instance_in a.plan.numbers.now in
    let A = above_of P a.above.now in
    let is = is_count P a.text.now a.at c.units-units.ensures c.periods-periods.ensures c.fill_line.result c.fill_line.ensures.answer in
    let g = left P a.text.now a.at c.args.plan.laid.well_formed c.fill_line.result is c.in_ok-next.was c.fill_line.ensures.stored in
    let w = count_values P a.text.now a.at g.line_good c.fill_line.new.out g.values in
    let few = c.args.plan.laid.well_formed.periods_in.1 in
    omega (arith, w.period, few)

pub returns : goal.returns
returns c =
    let a = c.args in
    let P = instance_in a.plan.numbers.now in
    let A = above_of P a.above.now in
    let is = is_count P a.text.now a.at c.units-units.ensures c.periods-periods.ensures c.fill_line.result c.fill_line.ensures.answer in
    let g = left P a.text.now a.at c.args.plan.laid.well_formed c.fill_line.result is c.in_ok-next.was c.fill_line.ensures.stored in
    let w = count_values P a.text.now a.at g.line_good c.fill_line.new.out g.values in
    let vs = c.fill_line.new.out in
    count_good P a.text.now a.at A a.depth g.line_good vs g.values c.refuse_count.result
    (c.refuse_count.ensures ∙ number_is P a.above.now (vs at 0 - 1) (vs at 1) a.depth w.period) _ c.in_ok-refuse_count.was c.in_ok-next.next g.next_is
