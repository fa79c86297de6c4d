-- Laws of this crate's definitions.
pub mod BoxLaws
pub mod FiniteBoxes
