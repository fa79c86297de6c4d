-- What reading gives for the encoding of a shape, stated for a reader.
pub mod Held
pub mod ReadBack
