-- What the contracts of this crate cite, beside the rules themselves. Plans serves the contracts of private functions alone.
pub mod Plans
pub mod Verdicts
