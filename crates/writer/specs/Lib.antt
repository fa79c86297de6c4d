-- Document 01's "Writing": the state, adding a record, finishing. Judging serves the contracts of private functions alone.
pub mod Adding
pub mod Finishing
pub mod Judging
pub mod State
