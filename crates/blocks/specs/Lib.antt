pub mod Blocks
pub mod BlockLaws
pub mod AroundLaws
pub mod OwnRowLaws
pub mod RowLaws
pub mod SortedLaws
