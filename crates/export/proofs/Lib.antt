-- The theorems on refusals: on the number, and on what was cut.
pub mod CutTells
pub mod NumberTells
