-- What the contracts of the rules over all units cite, over the model's definitions.
pub mod LeafLeasts
pub mod Limits
