-- What the contracts of this crate cite: the header's box, of document 01's "Writing".
pub mod Boxes
