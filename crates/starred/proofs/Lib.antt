-- That every row of the table is as document 01 says: by computation.
pub mod Holds
