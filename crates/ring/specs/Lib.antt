pub mod Int
pub mod Poly
pub mod Nat
pub mod InnerProduct
