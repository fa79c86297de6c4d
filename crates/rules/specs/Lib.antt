-- The pair checker: its rules P1 to P17, and what its yes means.
pub mod Rules
pub mod Meaning
