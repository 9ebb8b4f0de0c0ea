-- `docket_fresh` meets its contract.
use mathlib.Core.Path.{refl, sym, ap, ◌∙◌}
use Rattle.docket.specs.declared.Docket.{Docket}
use Rattle.state.specs.Kept.{kept_numbers, kept_rows}
use Rattle.state.proofs.Room.{long_room}
use Rattle.docket_host.specs.Calls.{fresh_answer, fresh_numbers, fresh_rows}
use Rattle.docket_host.proofs.Calls.{fresh_short}
use Rattle.docket_host.proofs.docket_fresh.Goals as goal

pub keep-requires : goal.keep-requires
keep-requires c = let whole = long_room c.args.numbers.now c.args.rows.now (sym c.is_long.ensures ∙ c.if-not-is_long.false) in record { in_bounds = whole.0; in_bounds_2 = whole.1 }

pub returns : goal.returns
unfolding fresh_answer fresh_numbers fresh_rows
returns c =
    let e = sym c.is_long.ensures ∙ c.if-not-is_long.false in
    record { answer = rw e refl; numbers = rw e (c.keep.ensures.numbers_after ∙ ap (λ (d : Docket). kept_numbers d c.args.numbers.now) c.fresh.ensures); rows = rw e (c.keep.ensures.rows_after ∙ ap (λ (d : Docket). kept_rows d c.args.rows.now) c.fresh.ensures) }

pub returns-then-not-is_long : goal.returns-then-not-is_long
returns-then-not-is_long c =
    let a = c.args in let whole = fresh_short a.numbers.now a.rows.now (sym c.is_long.ensures ∙ c.if-not-is_long.true) in record { answer = whole.0; numbers = whole.1.0; rows = whole.1.1 }
