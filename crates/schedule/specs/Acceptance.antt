-- When a schedule's text is accepted and when it is refused, in document 01's words: renderings, ranges and rules.
use Rattle.std.specs.Prelude.{ℕ, ◌≡◌, List}
use Rattle.model.specs.Instance.{Instance, Schedule}
use Rattle.model.specs.Ranges.{GoodWriter, GoodRows}
use Rattle.model.specs.Rules.{Meets}
use Rattle.model.specs.Cost.{cost}
use Rattle.model.specs.Breach.{Breach}
use Rattle.model.specs.Broken.{Broken, Lower}
use Rattle.refusal.specs.declared.Refusal.{Refusal}
use Rattle.refusal.specs.Refusals.{line_refusal}
use Rattle.schedule.specs.Rendering.{render}
use Rattle.schedule.specs.Refusals.{RefusedAt}

-- the refusal of a broken rule
abbrev pub rule_refusal : Breach → Refusal
rule_refusal b = record { number = b.number; line = 0; unit = b.unit; period = b.period }

module _ (P : Instance) (text : List ℕ) where
  -- the text renders a writer and rows in range, which meet the rules and cost c
  pub record Accepts (w c : ℕ) (s : Schedule) : Type 0 where
    pub renders : text ≡ render w s
    pub writer_in : GoodWriter w
    pub rows_in : GoodRows P s
    pub meets : Meets P s
    pub cost_is : c ≡ cost P s

  pub record AcceptsSome : Type 0 where
    pub writer : ℕ
    pub cost : ℕ
    pub rows : Schedule
    pub accepts : Accepts writer cost rows

  -- the text renders a writer and rows in range, and of the rules that the rows break b is the first
  pub record BreaksFirst (b : Breach) : Type 0 where
    pub writer : ℕ
    pub rows : Schedule
    pub renders : text ≡ render writer rows
    pub writer_in : GoodWriter writer
    pub rows_in : GoodRows P rows
    pub broken : Broken P rows b
    pub first : (c : Breach) → Lower c b → Broken P rows c → ⊥

  -- the refusals that meet the text
  pub data RefusedFor : Refusal → Type 0 where
    by_line : (n l : ℕ) → RefusedAt P text n l → RefusedFor (line_refusal n l)
    by_rule : (b : Breach) → BreaksFirst b → RefusedFor (rule_refusal b)
