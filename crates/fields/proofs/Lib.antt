-- Laws of this crate's loops.
mod Turns
