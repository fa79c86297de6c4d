-- That reading what was written gives the tables back: Written has the theorem.
mod Tables
pub mod Written
