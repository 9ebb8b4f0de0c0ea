-- In how many places a rule is broken. Where it is in none, no first place is to be sought.
use Rattle.std.specs.Prelude.{Bool, true, false, List, ℕ, ◌*◌, get_or, take, drop}
use Rattle.model.specs.declared.generator.Generator.{Generator}
use Rattle.model.specs.declared.arrays.Problem.{Problem}
use Rattle.model.specs.Instance.{sum}
use Rattle.model.specs.Rules.{statuses}
use Rattle.model.specs.Breach.{not_permitted}
use Rattle.model.specs.Held.{blank_generator}

-- (5) to (10) of a unit's row: the status of period t is not permitted, counting from Tini on
abbrev pub barred : ℕ → Generator → List ℕ → Bool
barred t g r = not_permitted g g.on g.since (statuses r) t

abbrev pub bit : Bool → ℕ
bit true = 1
bit false = 0

module _ (q : ℕ → Generator → List ℕ → Bool) where
  -- in how many of the first n periods a unit's row breaks the rule q
  abbrev pub breaches : Generator → List ℕ → ℕ → ℕ
  breaches g r n = sum n (λ t. bit (q t g r))

  -- in how many places the first k units do, whose rows stand one after the other in a list
  abbrev pub all_breaches : Problem → List ℕ → ℕ → ℕ
  all_breaches p l k =
      sum k (λ i. breaches (get_or p.generators i blank_generator) (take p.periods (drop (i * p.periods) l)) p.periods)
