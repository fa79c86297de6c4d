-- Laws of the writer, and that its contracts determine what comes back.
pub mod Accepted
mod AddLaws
mod BodyLaws
pub mod Determined
pub mod Given
mod JudgeLaws
pub mod KindLaws
mod LengthLaws
pub mod NextBox
pub mod NextLaws
pub mod Numbered
mod PassLaws
pub mod ShapeLaws
pub mod StateLaws
pub mod StoreLaws
