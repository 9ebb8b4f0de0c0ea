-- `bound_numbers` meets its contract, by the figure that shows the bound.
use Rattle.std.proofs.Common.{inl, inr}
use Rattle.answer.proofs.NumberCases.{shown_as}
use Rattle.answer.proofs.values.bound_numbers.Goals as goal

pub returns-in-Missing : goal.returns-in-Missing
returns-in-Missing c =
    let shown = c.figure_of_bound.ensures in
    elim c.in-Missing.is [ inl e ↦ shown_as c.args.bound _ _ shown e | inr e ↦ shown_as c.args.bound _ _ shown e ]

pub returns-in-Number : goal.returns-in-Number
returns-in-Number c = shown_as c.args.bound _ _ c.figure_of_bound.ensures c.in-Number.is

pub returns-in-Minus : goal.returns-in-Minus
returns-in-Minus c = shown_as c.args.bound _ _ c.figure_of_bound.ensures c.in-Minus.is
