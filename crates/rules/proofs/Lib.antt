-- The laws of the rules, which the checker's proofs and the theorem on its meaning cite.
pub mod Ends
pub mod FaultLaws
pub mod FiniteLaws
pub mod FirstFault
pub mod HeadLaws
pub mod HeaderRules
pub mod Numbered
pub mod Turns
pub mod VerdictLaws
pub mod WalkLaws
