-- `write_walk` meets its contract: what the table keeps for the state before period 1 is the walk's value, and the row is written over that table.
use mathlib.Core.Path.{◌≡◌, refl, sym, subst, ◌∙◌}
use Prim.Native.Nat.{ℕ}
use lib.ListN.{length}
use Rattle.model.specs.Walk.{walk}
use Rattle.walk.specs.Marks.{marks_of}
use Rattle.walk.specs.GoingBack.{costs_of}
use Rattle.runs.specs.Kept.{Kept}
use Rattle.runs.proofs.UnitRuns.{zeros_at, kept_first, row_there, row_missing}
use Rattle.runs.proofs.unit.write_walk.Goals as goal
use Rattle.runs.proofs.unit.write_walk.Tie as tie
use Rattle.runs.proofs.unit.write_walk.Reads as reads
use Rattle.runs.proofs.unit.write_walk.Lts as lts

-- the table is that of the walk
kept : (c : lts.After-keep_walk tie.the-claims reads.Pre reads.Post tie.handed_clauses) →
    let a = c.args in
    Kept (length a.q.now) a.unit.generator (marks_of a.fixed.now) (costs_of a.on.now a.off.now) c.keep_walk.new.table
kept c =
    let a = c.args in
    subst (λ (n : ℕ). Kept n a.unit.generator (marks_of a.fixed.now) (costs_of a.on.now a.off.now) c.keep_walk.new.table) c.requires.good_costs.0.on_long c.keep_walk.ensures

-- what is read there is the walk's value
found : (c : lts.After-kept_at tie.the-claims reads.Pre reads.Post tie.handed_clauses) →
    let a = c.args in
    c.kept_at-found.result ≡ walk (length a.q.now) a.unit.generator (marks_of a.fixed.now) (costs_of a.on.now a.off.now) a.unit.generator.on a.unit.generator.since
found c =
    let a = c.args in
    c.kept_at-found.ensures ∙ kept_first (length a.q.now) a.unit.generator c.args.unit.good (marks_of a.fixed.now) (costs_of a.on.now a.off.now) c.keep_walk.new.table (kept c.before.before.before)

pub keep_walk-requires-clause-table_len : goal.keep_walk-requires-clause-table_len
keep_walk-requires-clause-table_len c = (refl, zeros_at 7105)

pub returns-then-found-eq0 : goal.returns-then-found-eq0
returns-then-found-eq0 c =
    let e = sym c.if-found-eq0.true ∙ found c.before.before in
    record { value = e; row = row_missing _ _ _ (sym e) }

pub returns : goal.returns
returns c =
    let e = found c.before.before.before.before.before.before.before in
    record { value = e; row = c.write_row.ensures ∙ row_there _ _ _ (λ z. c.if-found-eq0.false (e ∙ z)) }
