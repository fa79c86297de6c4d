-- That reading the encoding of a shape gives the shape back: ReadsBack has the theorems, Records what follows for an accepted pair.
mod Contents
pub mod Held
mod InBody
mod InMultipoint
mod InParts
mod Measures
mod Points
pub mod ReadsBack
pub mod Records
mod Sizes
