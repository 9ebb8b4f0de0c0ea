-- `take_units` meets its contract: the bytes above are what the question names, as far as they are read.
use mathlib.Core.Path.{◌≡◌, ap, subst, ◌∙◌}
use mathlib.Core.List.{List}
use Prim.Native.Nat.{ℕ, ◌+◌, ◌-◌}
use native.Mathlib.Omega.{arith}
use borrow.Author.Rules.{rules}
use lib.ListN.{set, replicate}
use Rattle.model.specs.Instance.{Instance}
use Rattle.model.specs.Held.{view}
use Rattle.layout.specs.Numbers.{instance_in}
use Rattle.walk.specs.Marks.{above_of, upper_begin}
use Rattle.layout.proofs.Fronts.{paste_front}
use Rattle.leaves.specs.LeafLeasts.{taken_in}
use Rattle.docket.specs.Taking.{FitQuestion}
use Rattle.docket.proofs.Questions.{fits_is, t_within, statuses_first, taken_asked}
use Rattle.docket.proofs.taking.take_units.Goals as goal
use Rattle.docket.proofs.taking.take_units.Tie as tie
use Rattle.docket.proofs.taking.take_units.Reads as reads
use Rattle.docket.proofs.taking.take_units.Lts as lts

fit : (s : lts.Start tie.the-claims reads.Pre reads.Post tie.handed_clauses) → FitQuestion (view s.args.problem) s.args.period s.args.most s.args.fixed.now
fit s = (fits_is (view s.args.problem) s.args.period s.args.most s.args.fixed.now).0 s.requires.fixed_value

pub overflow_sub-t : goal.overflow_sub-t
overflow_sub-t c = omega (arith, (fit c.before.before).period_in)

pub store-requires : goal.store-requires
store-requires c =
    let room = statuses_first (view c.args.problem) c.requires.valid.well_formed c.args.period c.args.most c.args.fixed.now (fit c.before.before.before.before) in
    omega (arith, room)

pub overflow_cast-above : goal.overflow_cast-above
overflow_cast-above c = omega (arith, (fit c.before.before.before.before.before.before).most_in, c.requires.valid.well_formed.units_in.1)

pub overflow_add-above : goal.overflow_add-above
overflow_add-above c = omega (arith, (fit c.before.before.before.before.before.before).period_in, c.requires.valid.well_formed.periods_in.1)

pub bounds-above-t : goal.bounds-above-t
bounds-above-t c = omega (arith, (fit c.before.before.before.before.before.before).period_in, c.requires.valid.well_formed.periods_in.1)

pub sum_until-requires : goal.sum_until-requires
sum_until-requires c =
    let P = view c.args.problem in record { t_bound = rw (ap instance_in c.of.ensures ∙ c.lay_out_ranked-numbers.ensures.read.1) (t_within P c.requires.valid.well_formed c.args.period c.args.most c.args.fixed.now (fit c.before.before.before.before.before.before.before.before.before)); above_len = search rules }

pub returns : goal.returns
returns c =
    let a = c.args in
    let P = view a.problem in
    let t = a.period - 1 in
    let here = subst (λ (Q : Instance). c.sum_until.result ≡ taken_in Q (above_of Q (set c.store.new.numbers (upper_begin + t) a.most)) t) (ap instance_in c.of.ensures ∙ c.lay_out_ranked-numbers.ensures.read.1) c.sum_until.ensures in
    here
    ∙ ap (λ (b : List ℕ). taken_in P (above_of P (set b (upper_begin + t) a.most)) t) (c.store.ensures ∙ paste_front (replicate 1632 0) a.fixed.now)
    ∙ taken_asked P c.requires.valid.well_formed a.period a.most a.fixed.now (fit c.before.before.before.before.before.before.before.before.before.before)
