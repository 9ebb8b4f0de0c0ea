-- Each kind's own reader answers.
use mathlib.Core.Path.{ap, ◌∙◌}
use Rattle.tree.specs.Kinds.{leaf_kind}
use Rattle.tree.proofs.leaf.read_leaf.Goals as goal

pub read_short-requires : goal.read_short-requires
read_short-requires c =
    let p = c.requires in
    record { above_len = p.above_len; placed = p.placed; at_value = p.at_value ∙ ap leaf_kind c.in-Short.is }

pub read_crowd-requires : goal.read_crowd-requires
read_crowd-requires c =
    let p = c.requires in
    record { above_len = p.above_len; placed = p.placed; at_value = p.at_value ∙ ap leaf_kind c.in-Crowd.is }

pub read_stuck-requires : goal.read_stuck-requires
read_stuck-requires c =
    let p = c.requires in
    record { above_len = p.above_len; placed = p.placed; at_value = p.at_value ∙ ap leaf_kind c.in-Stuck.is }

pub read_price-requires : goal.read_price-requires
read_price-requires c =
    let p = c.requires in
    record { above_len = p.above_len; placed = p.placed; at_value = p.at_value ∙ ap leaf_kind c.in-Price.is }

pub read_ramp-requires : goal.read_ramp-requires
read_ramp-requires c =
    let p = c.requires in
    record { above_len = p.above_len; placed = p.placed; at_value = p.at_value ∙ ap leaf_kind c.in-Ramp.is }

pub returns-in-Short : goal.returns-in-Short
returns-in-Short c = c.read_short.ensures

pub returns-in-Crowd : goal.returns-in-Crowd
returns-in-Crowd c = c.read_crowd.ensures

pub returns-in-Stuck : goal.returns-in-Stuck
returns-in-Stuck c = c.read_stuck.ensures

pub returns-in-Price : goal.returns-in-Price
returns-in-Price c = c.read_price.ensures

pub returns-in-Ramp : goal.returns-in-Ramp
returns-in-Ramp c = c.read_ramp.ensures
