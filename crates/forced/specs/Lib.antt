-- What the contracts of forced statuses cite, over the model's definitions.
pub mod Forward
pub mod Entries
pub mod Answers
