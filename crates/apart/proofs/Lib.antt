-- That today's stores are the old pairs taken apart: Reading, Writing and Rings have the theorems.
mod Layouts
mod Lists
pub mod Reading
pub mod Rings
mod Tests
pub mod Writing
