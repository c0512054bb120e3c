-- definitions that a reader has to believe
pub mod Root
pub mod Ceil
pub mod Small
pub mod Nearest
-- laws, lowest first: natural numbers, rounding, the operations, the root
pub mod Steps
pub mod Near
pub mod Value
pub mod Ops
pub mod Compare
pub mod Exact
pub mod Abs
pub mod RootLaw
pub mod RootDigits
pub mod RootNearest
pub mod Rank
pub mod Unique
pub mod Whole
