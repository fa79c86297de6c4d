-- Document 01's starred examples in one table, and one statement over it.
pub mod Starred
