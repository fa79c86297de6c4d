-- The laws of the definitions of specs/, which the crates above cite.
pub mod BitLaws
pub mod ByteLaws
pub mod Cuts
pub mod Determined
pub mod Doubles
pub mod Equations
pub mod FiniteLaws
pub mod HeaderLaws
pub mod KindLaws
pub mod Laid
pub mod LayoutLaws
pub mod LengthLaws
mod LengthTable
pub mod MultipointStands
pub mod NanLaws
pub mod NumberLaws
pub mod OrderLaws
pub mod Pairs
pub mod PartsStand
pub mod Placed
pub mod Places
pub mod Records
pub mod Rings
pub mod Runs
pub mod SaidLaws
pub mod SignLaws
pub mod UnitLaws
