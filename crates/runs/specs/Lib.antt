-- What the contracts of a leaf's runs cite, over the model's definitions.
pub mod Kept
pub mod Columns
pub mod Questions
pub mod Drafts
