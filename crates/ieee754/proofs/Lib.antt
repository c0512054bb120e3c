pub mod Step
pub mod Written
pub mod Moved
pub mod Fields
pub mod Roots
pub mod Signed
pub mod Ceil
