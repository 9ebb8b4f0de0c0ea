-- The keys are tried in the order of the definition.
use mathlib.Core.Path.{sym, ◌∙◌}
use mathlib.Core.Bool.{false}
use Rattle.tree.specs.Rendering.{split_key, count_key, short_key, crowd_key, stuck_key, rampprice_key}
use Rattle.tree.proofs.Keys.{Begins, split_there, count_there, short_there, crowd_there, stuck_there, ramp_there, price_there}
use Rattle.tree.proofs.node.find_kind.Goals as goal
use Rattle.tree.proofs.node.find_kind.Tie as tie
use Rattle.tree.proofs.node.find_kind.Reads as reads
use Rattle.tree.proofs.node.find_kind.Lts as lts

-- ---- the keys that were tried in vain
abbrev start1 : lts.Else1 tie.the-claims reads.Pre reads.Post → lts.Start tie.the-claims reads.Pre reads.Post
start1 c = c.before.before.before.before.before

not-split : (c : lts.Else1 tie.the-claims reads.Pre reads.Post) → let a = (start1 c).args in Begins a.text.now a.at split_key false
not-split c = sym c.starts.ensures ∙ c.if-starts.false

abbrev start2 : lts.Else2 tie.the-claims reads.Pre reads.Post → lts.Start tie.the-claims reads.Pre reads.Post
start2 c = c.before.before.before.before.before.before.before.before.before

not-count : (c : lts.Else2 tie.the-claims reads.Pre reads.Post) → let a = (start2 c).args in Begins a.text.now a.at count_key false
not-count c = sym c.starts-2.ensures ∙ c.if-starts-2.false

abbrev start3 : lts.Else3 tie.the-claims reads.Pre reads.Post → lts.Start tie.the-claims reads.Pre reads.Post
start3 c = c.before.before.before.before.before.before.before.before.before.before.before.before.before

not_short : (c : lts.Else3 tie.the-claims reads.Pre reads.Post) → let a = (start3 c).args in Begins a.text.now a.at short_key false
not_short c = sym c.starts-3.ensures ∙ c.if-starts-3.false

abbrev start4 : lts.Else4 tie.the-claims reads.Pre reads.Post → lts.Start tie.the-claims reads.Pre reads.Post
start4 c = c.before.before.before.before.before.before.before.before.before.before.before.before.before.before.before.before.before

not-crowd : (c : lts.Else4 tie.the-claims reads.Pre reads.Post) → let a = (start4 c).args in Begins a.text.now a.at crowd_key false
not-crowd c = sym c.starts-4.ensures ∙ c.if-starts-4.false

abbrev start5 : lts.Else5 tie.the-claims reads.Pre reads.Post → lts.Start tie.the-claims reads.Pre reads.Post
start5 c = c.before.before.before.before.before.before.before.before.before.before.before.before.before.before.before.before.before.before.before.before.before

not_stuck : (c : lts.Else5 tie.the-claims reads.Pre reads.Post) → let a = (start5 c).args in Begins a.text.now a.at stuck_key false
not_stuck c = sym c.starts-5.ensures ∙ c.if-starts-5.false

abbrev start6 : lts.Else6 tie.the-claims reads.Pre reads.Post → lts.Start tie.the-claims reads.Pre reads.Post
start6 c = c.before.before.before.before.before.before.before.before.before.before.before.before.before.before.before.before.before.before.before.before.before.before.before.before.before

not-ramp : (c : lts.Else6 tie.the-claims reads.Pre reads.Post) → let a = (start6 c).args in Begins a.text.now a.at rampprice_key false
not-ramp c = sym c.starts-6.ensures ∙ c.if-starts-6.false

pub returns-then-starts : goal.returns-then-starts
returns-then-starts c =
    let a = c.args in
    split_there a.text.now a.at (sym c.starts.ensures ∙ c.if-starts.true)

pub returns-then-starts-2 : goal.returns-then-starts-2
returns-then-starts-2 c =
    let a = (start1 c.before.before.before.before.before).args in
    count_there a.text.now a.at (not-split c.before.before.before.before.before) (sym c.starts-2.ensures ∙ c.if-starts-2.true)

pub returns-then-starts-3 : goal.returns-then-starts-3
returns-then-starts-3 c =
    let a = (start1 c.before.before.before.before.before.before.before.before.before).args in
    short_there a.text.now a.at (not-split c.before.before.before.before.before.before.before.before.before) (not-count c.before.before.before.before.before) (sym c.starts-3.ensures ∙ c.if-starts-3.true)

pub returns-then-starts-4 : goal.returns-then-starts-4
returns-then-starts-4 c =
    let a = (start1 c.before.before.before.before.before.before.before.before.before.before.before.before.before).args in
    crowd_there a.text.now a.at (not-split c.before.before.before.before.before.before.before.before.before.before.before.before.before) (not-count c.before.before.before.before.before.before.before.before.before) (not_short c.before.before.before.before.before) (sym c.starts-4.ensures ∙ c.if-starts-4.true)

pub returns-then-starts-5 : goal.returns-then-starts-5
returns-then-starts-5 c =
    let a = (start1 c.before.before.before.before.before.before.before.before.before.before.before.before.before.before.before.before.before).args in
    stuck_there a.text.now a.at (not-split c.before.before.before.before.before.before.before.before.before.before.before.before.before.before.before.before.before) (not-count c.before.before.before.before.before.before.before.before.before.before.before.before.before) (not_short c.before.before.before.before.before.before.before.before.before) (not-crowd c.before.before.before.before.before) (sym c.starts-5.ensures ∙ c.if-starts-5.true)

pub returns-then-starts-6 : goal.returns-then-starts-6
returns-then-starts-6 c =
    let a = (start1 c.before.before.before.before.before.before.before.before.before.before.before.before.before.before.before.before.before.before.before.before.before).args in
    ramp_there a.text.now a.at (not-split c.before.before.before.before.before.before.before.before.before.before.before.before.before.before.before.before.before.before.before.before.before) (not-count c.before.before.before.before.before.before.before.before.before.before.before.before.before.before.before.before.before) (not_short c.before.before.before.before.before.before.before.before.before.before.before.before.before) (not-crowd c.before.before.before.before.before.before.before.before.before) (not_stuck c.before.before.before.before.before) (sym c.starts-6.ensures ∙ c.if-starts-6.true)

pub returns : goal.returns
returns c =
    let a = (start1 c.before.before.before.before.before.before.before.before.before.before.before.before.before.before.before.before.before.before.before.before.before).args in
    price_there a.text.now a.at (not-split c.before.before.before.before.before.before.before.before.before.before.before.before.before.before.before.before.before.before.before.before.before) (not-count c.before.before.before.before.before.before.before.before.before.before.before.before.before.before.before.before.before) (not_short c.before.before.before.before.before.before.before.before.before.before.before.before.before) (not-crowd c.before.before.before.before.before.before.before.before.before) (not_stuck c.before.before.before.before.before) (not-ramp c.before)
