-- What comes of a whole evening of writing, stated for a reader in Evening; ForC ties the calls for C and Rust to it.
pub mod Evening
pub mod ForC
