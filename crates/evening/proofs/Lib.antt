-- Kept has what every accepted add keeps; Evening has the theorems, Buffer the one on a single buffer, and ForC those on the calls for C and Rust.
pub mod Buffer
pub mod Evening
pub mod ForC
mod Kept
