-- What the periods cost a unit at given prices (the model's Prices and RampCosts), as two lists.
use Rattle.std.specs.Prelude.{◌≡◌, Bool, true, false, List, ℕ, ◌<◌, length}
use Rattle.model.specs.declared.generator.Generator.{Generator}
use Rattle.model.specs.Instance.{◌at◌}
use Rattle.model.specs.Prices.{worth}

-- the costs on and off at the prices q and the reserve prices s
pub record Priced (g : Generator) (q s on off : List ℕ) : Type 0 where
  pub on_long : length on ≡ length q
  pub off_long : length off ≡ length q
  pub on_at : (t : ℕ) → t < length q → on at t ≡ worth g (q at t) (s at t) true
  pub off_at : (t : ℕ) → t < length q → off at t ≡ worth g (q at t) (s at t) false

-- the costs on and off of n periods, where period t costs w t by its status
pub record Costed (n : ℕ) (w : ℕ → Bool → ℕ) (on off : List ℕ) : Type 0 where
  pub on_long : length on ≡ n
  pub off_long : length off ≡ n
  pub on_at : (t : ℕ) → t < n → on at t ≡ w t true
  pub off_at : (t : ℕ) → t < n → off at t ≡ w t false
