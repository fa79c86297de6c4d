-- That a record added is one shape more: ToFile has the theorem of a file of a kind, and Appends the one of any shapes.
pub mod Appends
pub mod ToFile
