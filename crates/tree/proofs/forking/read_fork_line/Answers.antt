-- Each kind's own reader answers.
use mathlib.Core.Path.{sym, ap, ◌∙◌}
use Rattle.layout.specs.Numbers.{instance_in}
use Rattle.walk.specs.Marks.{above_of}
use Rattle.tree.specs.declared.forking.ForkKind.{ForkKind}
use Rattle.tree.specs.Kinds.{fork_kind}
use Rattle.tree.specs.ReadAnswers.{fork_line_read}
use Rattle.tree.proofs.forking.read_fork_line.Goals as goal

pub read_split_line-requires : goal.read_split_line-requires
read_split_line-requires c =
    let p = c.requires in
    record { above_len = p.above_len; text_len_bound = p.text_len_bound; at_value = p.at_value ∙ ap fork_kind c.in-Split.is }

pub read_count_line-requires : goal.read_count_line-requires
read_count_line-requires c =
    let p = c.requires in
    record { above_len = p.above_len; text_len_bound = p.text_len_bound; at_value = p.at_value ∙ ap fork_kind c.in-Count.is }

pub returns-in-Split : goal.returns-in-Split
returns-in-Split c =
    let a = c.args in
    let P = instance_in a.plan.numbers.now in
    c.read_split_line.ensures ∙ ap (λ (k : ForkKind). fork_line_read P a.text.now a.at (above_of P a.above.now) a.depth k) (sym c.in-Split.is)

pub returns-in-Count : goal.returns-in-Count
returns-in-Count c =
    let a = c.args in
    let P = instance_in a.plan.numbers.now in
    c.read_count_line.ensures ∙ ap (λ (k : ForkKind). fork_line_read P a.text.now a.at (above_of P a.above.now) a.depth k) (sym c.in-Count.is)
