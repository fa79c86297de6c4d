-- What the contracts of this crate cite beside format's definitions.
pub mod Checked
