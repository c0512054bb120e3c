pub mod Parting
pub mod Levels
pub mod Building
pub mod Counting
