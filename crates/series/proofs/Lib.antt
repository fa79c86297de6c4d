-- What holds of every series: After has the theorems.
pub mod After
