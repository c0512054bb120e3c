pub mod Edges
pub mod Hashes
