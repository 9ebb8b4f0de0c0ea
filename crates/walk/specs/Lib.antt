-- What the contracts of a walk over costs by period cite, over the model's definitions.
pub mod Marks
pub mod Limits
pub mod GoingBack
