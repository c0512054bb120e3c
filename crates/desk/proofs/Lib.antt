pub mod Lines
pub mod Parts
pub mod Printing
pub mod Whole
