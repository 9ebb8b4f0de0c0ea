-- `sum_offset` meets its contract: the pair of a turn is the next period's, and there are as many turns as periods.
use Rattle.std.proofs.Common.{rules, arith, ◌≡◌, ◌∙◌, ap, ◌+◌, ◌*◌, ℕ, suc, length, length-append, List, [], ◌∷◌, ◌++◌}
use Rattle.std.proofs.lemmas.Slice.Zip.{zip_turn, zip_end}
use Rattle.model.specs.Instance.{◌at◌, sum as sum_of}
use Rattle.model.specs.Prices.{offset}
use Rattle.model.proofs.PeriodSums.{sum_more}
use Rattle.least.proofs.Costs.{part_offset_fits}
use Rattle.least.proofs.unit.sum_offset.Goals as goal

-- a turn more
more : (q s : List ℕ) (high sum x y t : ℕ) → sum ≡ sum_of t (λ i. (q at i + s at i) * high) → x ≡ q at t → y ≡ s at t
    → sum + (x + y) * high ≡ sum_of (suc t) (λ i. (q at i + s at i) * high)
more q s high sum x y t e h k = rw (h, k) (omega (arith, e, sum_more t (λ i. (q at i + s at i) * high)))

pub overflow_add-sum-in-loop-q : goal.overflow_add-sum-in-loop-q
overflow_add-sum-in-loop-q c =
    let a = c.args in
    let t = length c.loop-q.yielded in
    let turn = zip_turn a.q.now a.s.now c.loop-q.yielded c.into_iter-q-iterator.result c.loop-q.q-iterator c.next.new.self c.next.result (cc) (cc) c.loop-q.yielded_by (c.in-Some.q, c.in-Some.s) (search rules) c.next.ensures.steps in
    omega (
      arith,
      more a.q.now a.s.now a.unit.generator.pU c.loop-q.sum c.in-Some.q.now c.in-Some.s.now t c.loop-q.invariant (turn.2 0) (turn.3 0),
      part_offset_fits (length a.q.now) a.q.now a.s.now c.requires a.unit.generator c.args.unit.good (suc t) turn.0,
    )

pub loop-q-preserved : goal.loop-q-preserved
loop-q-preserved c =
    let a = c.args in
    let t = length c.loop-q.yielded in
    let turn = zip_turn a.q.now a.s.now c.loop-q.yielded c.into_iter-q-iterator.result c.loop-q.q-iterator c.next.new.self c.next.result (cc) (cc) c.loop-q.yielded_by (c.in-Some.q, c.in-Some.s) (search rules) c.next.ensures.steps in
    let long : suc t ≡ length (c.loop-q.yielded ++ ((c.in-Some.q, c.in-Some.s) ∷ [])) = simp length-append (omega arith) in
    more a.q.now a.s.now a.unit.generator.pU c.loop-q.sum c.in-Some.q.now c.in-Some.s.now t c.loop-q.invariant (turn.2 0) (turn.3 0)
    ∙ ap (λ (k : ℕ). sum_of k (λ i. (a.q.now at i + a.s.now at i) * a.unit.generator.pU)) long

pub returns : goal.returns
unfolding offset
returns c =
    let a = c.args in
    let end = zip_end a.q.now a.s.now c.loop-q.yielded c.into_iter-q-iterator.result c.loop-q.q-iterator c.next.new.self c.next.result (cc) (cc) c.loop-q.yielded_by c.in-None.is c.next.ensures.steps in
    let long : length c.loop-q.yielded ≡ length a.q.now = omega (arith, end, c.requires.s_long) in
    c.loop-q.invariant ∙ ap (λ (k : ℕ). sum_of k (λ i. (a.q.now at i + a.s.now at i) * a.unit.generator.pU)) long
