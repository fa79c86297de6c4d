-- A series of calls of the writer, and what holds of every series from a fresh state.
pub mod Series
pub mod Taken
pub mod Totals
