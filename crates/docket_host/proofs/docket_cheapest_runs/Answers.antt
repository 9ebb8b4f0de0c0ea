-- `docket_cheapest_runs` meets its contract.
use mathlib.Core.Path.{sym, ap, subst, ◌∙◌}
use Rattle.state.proofs.Opening.{opened_is, not_opened}
use Rattle.docket.specs.declared.Docket.{Docket}
use Rattle.docket.specs.Drafting.{runs_of}
use Rattle.docket_host.specs.Calls.{Few}
use Rattle.docket_host.proofs.RunsCalls.{few_there, runs_small, runs_empty, runs_done, runs_other}
use Rattle.docket_host.proofs.docket_cheapest_runs.Goals as goal

pub tell_runs-requires : goal.tell_runs-requires
tell_runs-requires c =
    let a = c.args in record {
      few = subst Few (sym (c.cheapest_runs.ensures.answer ∙ ap (λ (d : Docket). (runs_of d a.q.now a.s.now a.fixed.now a.runs.now a.short.now).answer) (opened_is c.args.numbers.now c.args.rows.now c.opened_in.result c.in-Ok.docket c.opened_in.ensures c.in-Ok.is).1))
          (few_there a.numbers.now a.rows.now a.q.now a.s.now a.fixed.now a.runs.now a.short.now);
      value_len = c.if-value-eq1.true;
    }

pub returns-then-value-eq1 : goal.returns-then-value-eq1
returns-then-value-eq1 c =
    let a = c.args in
    let r = c.cheapest_runs.ensures in let whole = runs_done a.numbers.now a.rows.now a.q.now a.s.now a.fixed.now a.runs.now a.short.now a.value.now
    (sym c.is_long.ensures ∙ c.if-not-is_long.false)
    (opened_is c.args.numbers.now c.args.rows.now c.opened_in.result c.in-Ok.docket c.opened_in.ensures c.in-Ok.is).0
    c.if-value-eq1.true
    c.in-Ok.docket (opened_is c.args.numbers.now c.args.rows.now c.opened_in.result c.in-Ok.docket c.opened_in.ensures c.in-Ok.is).1
    c.cheapest_runs.result r.answer _ r.rows _ r.short
    c.tell_runs.result c.tell_runs.ensures.number _ c.tell_runs.ensures.value in record { answer = whole.0; runs = whole.1.0; short = whole.1.1.0; value = whole.1.1.1 }

pub returns-then-docket : goal.returns-then-docket
returns-then-docket c =
    let a = c.args in let whole = runs_other a.numbers.now a.rows.now a.q.now a.s.now a.fixed.now a.runs.now a.short.now a.value.now
    (sym c.is_long.ensures ∙ c.if-not-is_long.false)
    (opened_is c.args.numbers.now c.args.rows.now c.opened_in.result c.in-Ok.docket c.opened_in.ensures c.in-Ok.is).0
    c.if-value-eq1.false c.in-Ok.docket (opened_is c.args.numbers.now c.args.rows.now c.opened_in.result c.in-Ok.docket c.opened_in.ensures c.in-Ok.is).1 _ c.if-docket.true in record { answer = whole.0; runs = whole.1.0; short = whole.1.1.0; value = whole.1.1.1 }

pub returns : goal.returns
returns c =
    let a = c.args in let whole = runs_other a.numbers.now a.rows.now a.q.now a.s.now a.fixed.now a.runs.now a.short.now a.value.now
    (sym c.is_long.ensures ∙ c.if-not-is_long.false)
    (opened_is c.args.numbers.now c.args.rows.now c.opened_in.result c.in-Ok.docket c.opened_in.ensures c.in-Ok.is).0
    c.if-value-eq1.false c.in-Ok.docket (opened_is c.args.numbers.now c.args.rows.now c.opened_in.result c.in-Ok.docket c.opened_in.ensures c.in-Ok.is).1 _ c.if-docket.false in record { answer = whole.0; runs = whole.1.0; short = whole.1.1.0; value = whole.1.1.1 }

pub returns-in_default : goal.returns-in_default
returns-in_default c =
    let a = c.args in let whole = runs_empty a.numbers.now a.rows.now a.q.now a.s.now a.fixed.now a.runs.now a.short.now a.value.now
    (sym c.is_long.ensures ∙ c.if-not-is_long.false)
    (not_opened c.args.numbers.now c.args.rows.now c.opened_in.result _ c.opened_in.ensures c.in_default.is).0 in record { answer = whole.0; runs = whole.1.0; short = whole.1.1.0; value = whole.1.1.1 }

pub returns-then-not-is_long : goal.returns-then-not-is_long
returns-then-not-is_long c =
    let a = c.args in let whole = runs_small a.numbers.now a.rows.now a.q.now a.s.now a.fixed.now a.runs.now a.short.now a.value.now
    (sym c.is_long.ensures ∙ c.if-not-is_long.true) in record { answer = whole.0; runs = whole.1.0; short = whole.1.1.0; value = whole.1.1.1 }
