-- The laws of this crate's definitions, as the code meets them.
pub mod BodyLaws
pub mod CountLaws
pub mod Determined
pub mod Numbered
mod PartLaws
pub mod Placed
pub mod RestLaws
pub mod StartLaws
mod StoreLaws
pub mod TestLaws
pub mod WalkLaws
