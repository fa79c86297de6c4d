-- What crosses to C and Rust: each answer of the library as a struct, with document 01's number and values of a refusal.
pub mod Cut
pub mod Headers
pub mod Numbers
pub mod Pairs
pub mod Records
pub mod Refusals
pub mod Runs
pub mod Writing
