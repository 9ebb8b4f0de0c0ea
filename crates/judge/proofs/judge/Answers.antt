-- Rule by rule: where a place is found it is the answer, and where none is the rest is judged.
use mathlib.Core.Path.{◌≡◌, sym, ap, ◌∙◌}
use borrow.Author.Rules.{rules}
use Rattle.std.specs.Prelude.{Ok, Err}
use Rattle.model.specs.Held.{view}
use Rattle.judge.specs.declared.tallies.Tallies.{Tallies}
use Rattle.judge.specs.Rows.{schedule_of}
use Rattle.judge.specs.Judgement.{rule_kept}
use Rattle.judge.proofs.RuleByRule.{breaks21, keeps21, breaks22, keeps22, breaks23, keeps23, breaks24, keeps24, breaks25, costs}
use Rattle.judge.proofs.judge.Goals as goal

pub returns-in_err-keep_rule : goal.returns-in_err-keep_rule
returns-in_err-keep_rule c =
    let P = view c.args.problem in
    let s = schedule_of c.args.problem c.args.rows.now in
    let e : c.from_residual.result ≡ Err c.in_err-keep_rule.field-0.0 = search rules in
    e ∙ sym (breaks21 P s _ (ap (rule_kept 21) (sym c.first_breach.ensures) ∙ sym c.keep_rule.ensures ∙ c.in_err-keep_rule.was))

pub returns-in_err-keep_rule-2 : goal.returns-in_err-keep_rule-2
returns-in_err-keep_rule-2 c =
    let P = view c.args.problem in
    let s = schedule_of c.args.problem c.args.rows.now in
    let left22 = keeps21 P s (ap (rule_kept 21) (sym c.first_breach.ensures) ∙ sym c.keep_rule.ensures ∙ c.in_ok-keep_rule.was) in
    let e : c.from_residual-in_err-keep_rule-2.result ≡ Err c.in_err-keep_rule-2.field-0.0 = search rules in
    e ∙ sym (breaks22 P s left22 _ (ap (rule_kept 22) (sym c.find_unmet_demand.ensures) ∙ sym c.keep_rule-2.ensures ∙ c.in_err-keep_rule-2.was))

pub returns-in_err-keep_rule-3 : goal.returns-in_err-keep_rule-3
returns-in_err-keep_rule-3 c =
    let P = view c.args.problem in
    let s = schedule_of c.args.problem c.args.rows.now in
    let left22 = keeps21 P s (ap (rule_kept 21) (sym c.first_breach.ensures) ∙ sym c.keep_rule.ensures ∙ c.in_ok-keep_rule.was) in
    let left23 = keeps22 P s left22 (ap (rule_kept 22) (sym c.find_unmet_demand.ensures) ∙ sym c.keep_rule-2.ensures ∙ c.in_ok-keep_rule-2.was) in
    let e : c.from_residual-in_err-keep_rule-3.result ≡ Err c.in_err-keep_rule-3.field-0.0 = search rules in
    e ∙ sym (breaks23 P s left23 _ (ap (rule_kept 23) (sym c.find_unmet_spare.ensures) ∙ sym c.keep_rule-3.ensures ∙ c.in_err-keep_rule-3.was))

pub returns-in_err-keep_rule-4 : goal.returns-in_err-keep_rule-4
returns-in_err-keep_rule-4 c =
    let P = view c.args.problem in
    let s = schedule_of c.args.problem c.args.rows.now in
    let left22 = keeps21 P s (ap (rule_kept 21) (sym c.first_breach.ensures) ∙ sym c.keep_rule.ensures ∙ c.in_ok-keep_rule.was) in
    let left23 = keeps22 P s left22 (ap (rule_kept 22) (sym c.find_unmet_demand.ensures) ∙ sym c.keep_rule-2.ensures ∙ c.in_ok-keep_rule-2.was) in
    let left24 = keeps23 P s left23 (ap (rule_kept 23) (sym c.find_unmet_spare.ensures) ∙ sym c.keep_rule-3.ensures ∙ c.in_ok-keep_rule-3.was) in
    let e : c.from_residual-in_err-keep_rule-4.result ≡ Err c.in_err-keep_rule-4.field-0.0 = search rules in
    e ∙ sym (breaks24 P s left24 _ (ap (rule_kept 24) (sym c.first_breach-2.ensures) ∙ sym c.keep_rule-4.ensures ∙ c.in_err-keep_rule-4.was))

pub returns-in_err-keep_rule-5 : goal.returns-in_err-keep_rule-5
returns-in_err-keep_rule-5 c =
    let P = view c.args.problem in
    let s = schedule_of c.args.problem c.args.rows.now in
    let left22 = keeps21 P s (ap (rule_kept 21) (sym c.first_breach.ensures) ∙ sym c.keep_rule.ensures ∙ c.in_ok-keep_rule.was) in
    let left23 = keeps22 P s left22 (ap (rule_kept 22) (sym c.find_unmet_demand.ensures) ∙ sym c.keep_rule-2.ensures ∙ c.in_ok-keep_rule-2.was) in
    let left24 = keeps23 P s left23 (ap (rule_kept 23) (sym c.find_unmet_spare.ensures) ∙ sym c.keep_rule-3.ensures ∙ c.in_ok-keep_rule-3.was) in
    let left25 = keeps24 P s left24 (ap (rule_kept 24) (sym c.first_breach-2.ensures) ∙ sym c.keep_rule-4.ensures ∙ c.in_ok-keep_rule-4.was) in
    let e : c.from_residual-in_err-keep_rule-5.result ≡ Err c.in_err-keep_rule-5.field-0.0 = search rules in
    e ∙ sym (breaks25 P s left25 _ (ap (rule_kept 25) (sym c.first_breach-3.ensures) ∙ sym c.keep_rule-5.ensures ∙ c.in_err-keep_rule-5.was))

pub returns : goal.returns
returns c =
    let P = view c.args.problem in
    let s = schedule_of c.args.problem c.args.rows.now in
    let left22 = keeps21 P s (ap (rule_kept 21) (sym c.first_breach.ensures) ∙ sym c.keep_rule.ensures ∙ c.in_ok-keep_rule.was) in
    let left23 = keeps22 P s left22 (ap (rule_kept 22) (sym c.find_unmet_demand.ensures) ∙ sym c.keep_rule-2.ensures ∙ c.in_ok-keep_rule-2.was) in
    let left24 = keeps23 P s left23 (ap (rule_kept 23) (sym c.find_unmet_spare.ensures) ∙ sym c.keep_rule-3.ensures ∙ c.in_ok-keep_rule-3.was) in
    let left25 = keeps24 P s left24 (ap (rule_kept 24) (sym c.first_breach-2.ensures) ∙ sym c.keep_rule-4.ensures ∙ c.in_ok-keep_rule-4.was) in
    let kept = ap (rule_kept 25) (sym c.first_breach-3.ensures) ∙ sym c.keep_rule-5.ensures ∙ c.in_ok-keep_rule-5.was in
    ap Ok (ap (λ (x : Tallies). x.cost) c.tally-tallies.ensures) ∙ sym (costs P s left25 kept)
