pub mod FarReach
pub mod Gathering
pub mod Growing
pub mod Held
pub mod Looking
pub mod OneTree
pub mod Reaching
pub mod Spanning
