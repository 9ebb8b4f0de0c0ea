-- What the tallies of a schedule say: a rule that is broken in no place has no first place.
use mathlib.Core.Path.{◌≡◌, ap}
use mathlib.Core.List.{List}
use Prim.Native.Nat.{ℕ}
use lib.ListN.{length}
use Rattle.model.specs.declared.arrays.Problem.{Problem}
use Rattle.model.specs.Held.{view}
use Rattle.judge.specs.declared.breach.Rule.{Rule}
use Rattle.std.specs.Prelude.{None}
use Rattle.judge.specs.declared.tallies.Tallies.{Tallies}
use Rattle.judge.specs.Judgement.{place_found}
use Rattle.judge.specs.Rows.{schedule_of, Fitting}
use Rattle.judge.specs.Counts.{all_breaches}
use Rattle.judge.specs.Rule.{broken_by, place_of}
use Rattle.judge.proofs.Counts.{none_found}

-- tallies by their parts
abbrev pub tallies_of : ℕ → ℕ → ℕ → ℕ → Tallies
tallies_of a b c d = record { limits = a; updown = b; ramps = c; cost = d }

pub tallies_same : {a a' b b' c c' d d' : ℕ} → a ≡ a' → b ≡ b' → c ≡ c' → d ≡ d' → tallies_of a b c d ≡ tallies_of a' b' c' d'
tallies_same p q u v = cc

module _ (p : Problem) (l : List ℕ) (F : Fitting p l) (many : length p.generators ≡ 32) where
  pub none_broken : (rule : Rule) → all_breaches (broken_by rule) p l p.units ≡ 0 → place_found (place_of rule (view p) (schedule_of p l)) ≡ None
  unfolding view
  none_broken rule e = ap place_found (none_found (broken_by rule) p l F many e)
