-- What follows from the meaning of the pair checker's answer, stated for a reader.
pub mod Consequences
