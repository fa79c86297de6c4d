-- What the contracts of this crate cite: document 01's "Header and records".
pub mod Box
pub mod Entries
pub mod Reading
pub mod RoundTrip
pub mod Writing
