pub mod Desk
pub mod Lengths
pub mod Examples
pub mod Printed
pub mod Outcomes
