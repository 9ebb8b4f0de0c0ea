use mathlib.Core.Bool.{true, false}
use Prim.Native.Nat.{◌+◌}
use native.Mathlib.Numerals.{add-one}
use native.Mathlib.Omega.{arith}
use Rattle.forced.proofs.Ready.{ready_start, ready_good}
use Rattle.forced.proofs.Filling.{costs_fit, stepped_ready, states_few, filling_next}
use Rattle.forced.proofs.unit.fill_forward.Goals as goal

pub loop-t-init : goal.loop-t-init
loop-t-init c =
    let a = c.args in
    record {
      ready = ready_start a.unit.generator a.ons.now a.offs.now c.requires.by_index c.requires.ons_len;
      long = c.requires.entries_len;
      entered = λ r h. absurd (omega arith);
    }

pub entry_value-requires-clause-states_len_bound : goal.entry_value-requires-clause-states_len_bound
entry_value-requires-clause-states_len_bound c =
    let R = stepped_ready c.args.unit.good (costs_fit c.requires.good_costs.0 c.loop-t.t) c.loop-t.invariant c.step_forward.ensures c.own_forward-own.ensures in
    let small = ready_good (omega (arith, c.loop-t-test.true, c.requires.good_costs.0.periods_in.1)) R in
    (states_few c.args.unit.good R false, small.1, small.2)

pub entry_value-requires-in-loop-t-clause-states_len_bound : goal.entry_value-requires-in-loop-t-clause-states_len_bound
entry_value-requires-in-loop-t-clause-states_len_bound c =
    let R = stepped_ready c.args.unit.good (costs_fit c.requires.good_costs.0 c.loop-t.t) c.loop-t.invariant c.step_forward.ensures c.own_forward-own.ensures in
    let small = ready_good (omega (arith, c.loop-t-test.true, c.requires.good_costs.0.periods_in.1)) R in
    (states_few c.args.unit.good R true, small.0, small.2)

pub loop-t-preserved : goal.loop-t-preserved
loop-t-preserved c =
    let t = c.loop-t.t in
    filling_next c.args.unit.good c.requires.kept t (t + 1) (add-one t) c.loop-t.own _ c.loop-t.ons c.loop-t.offs _ _ c.loop-t.entries c.loop-t-test.true
    (costs_fit c.requires.good_costs.0 t) c.loop-t.invariant c.step_forward.ensures c.own_forward-own.ensures
    c.entry_value.result c.entry_value-in-loop-t.result c.entry_value.ensures c.entry_value-in-loop-t.ensures
