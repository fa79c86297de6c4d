-- The shape that lent tables describe, and what writing its bytes comes to. Steps serves the contracts of private functions alone.
pub mod Answers
pub mod Lent
pub mod Steps
pub mod Tables
