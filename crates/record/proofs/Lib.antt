-- The laws of this crate's definitions, as the code meets them.
pub mod Determined
mod FrontLaws
pub mod Numbered
mod SeveralLaws
pub mod Placed
pub mod PointLaws
pub mod ShapeLaws
mod SizeLaws
