-- ESRI's paper and document 01 as definitions. These files hold no law and no proof: they are what a reader has to believe.
pub mod Bytes
pub mod Encoding
pub mod Kinds
pub mod Lengths
pub mod Numbers
pub mod Order
pub mod Said
pub mod Shapes
pub mod Units
pub mod WellFormed
