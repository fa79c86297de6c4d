-- Document 01's "Reading a body". Walks serves the contracts of private functions alone.
pub mod Answers
pub mod Body
pub mod Parts
pub mod Walks
