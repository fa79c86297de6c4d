-- What reading gives of what was written, as a statement.
pub mod Written
