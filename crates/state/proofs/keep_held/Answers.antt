-- `keep_held` meets its contract.
use mathlib.Core.Path.{refl, sym, ◌∙◌}
use Rattle.state.specs.Kept.{lodged_numbers, lodged_rows}
use Rattle.state.proofs.keep_held.Goals as goal

pub returns-then-is_held : goal.returns-then-is_held
unfolding lodged_numbers lodged_rows
returns-then-is_held c =
    rw (sym c.is_held.ensures ∙ c.if-is_held.true) (record { numbers_after = c.keep.ensures.numbers_after; rows_after = c.keep.ensures.rows_after })

pub returns-else-is_held : goal.returns-else-is_held
unfolding lodged_numbers lodged_rows
returns-else-is_held c = let e = sym c.is_held.ensures ∙ c.if-is_held.false in record { numbers_after = rw e refl; rows_after = rw e refl }
