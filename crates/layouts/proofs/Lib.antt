-- Laws of this crate's definitions, and that its contract determines what comes back.
pub mod BodyLaws
pub mod Determined
pub mod JudgeLaws
pub mod TableLaws
mod Turns
