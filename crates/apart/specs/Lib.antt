-- The old form, in which x and y stood in one store as pairs, and what the calls of today are to it. Old definitions stand here alone.
pub mod Apart
pub mod OldAdding
pub mod OldReading
pub mod OldRings
pub mod OldWriting
pub mod Pairs
