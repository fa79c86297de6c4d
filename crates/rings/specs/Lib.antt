-- Document 01's "Rings" as definitions.
pub mod Answers
pub mod Points
