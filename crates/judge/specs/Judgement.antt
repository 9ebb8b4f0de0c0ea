-- Document 01, Order: a schedule's judgement is the first rule that it breaks, or its cost.
use Rattle.std.proofs.Math.Option.{Option as Maybe, none, some}
use Rattle.std.specs.Prelude.{ℕ, Option, None, Some, Result, Ok, Err}
use Rattle.model.specs.Instance.{Instance, Schedule}
use Rattle.model.specs.Breach.{Breach, first_breach}
use Rattle.model.specs.Breach as breach
use Rattle.model.specs.Cost.{cost}
use Rattle.judge.specs.declared.Broken.{Broken}
use Rattle.judge.specs.declared.place.Place.{Place}

-- the answer for a first place, if there is one
abbrev pub place_found : Maybe (breach.Place) → Option Place
place_found none = None
place_found (some x) = Some (record { unit = x.unit; period = x.period })

-- the rule with a number, broken where there is a place
abbrev pub rule_kept : ℕ → Option Place → Result (Unit {0}) Broken
rule_kept k None = Ok tt
rule_kept k (Some x) = Err (record { number = k; place = x })

-- the judgement that the rule with a number is broken at a place
abbrev pub breaks_at : ℕ → Place → Result ℕ Broken
breaks_at k x = Err (record { number = k; place = x })

-- the rule that is broken, or else the cost
abbrev pub breach_or_cost : Maybe Breach → ℕ → Result ℕ Broken
breach_or_cost none c = Ok c
breach_or_cost (some b) c = breaks_at b.number (record { unit = b.unit; period = b.period })

unfoldable pub judgement : Instance → Schedule → Result ℕ Broken
judgement P s = breach_or_cost (first_breach P s) (cost P s)
