-- Document 01's "Reading a record". Steps serves the contracts of private functions alone.
pub mod Reading
pub mod Steps
