-- The laws of the definitions of specs/.
pub mod AnswerLaws
pub mod Determined
pub mod Equations
pub mod Numbered
pub mod PointLaws
