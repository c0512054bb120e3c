pub mod Params
pub mod Tolerance
pub mod Accepted
pub mod Examples
