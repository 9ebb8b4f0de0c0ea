-- What the contracts of one unit's least value cite, over the model's definitions.
pub mod UnitLeasts
pub mod Limits
pub mod Priced
