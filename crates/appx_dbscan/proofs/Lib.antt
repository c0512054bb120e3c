pub mod Trees
pub mod Phases
pub mod Answer
pub mod Call
