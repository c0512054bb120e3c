pub mod Tolerance
pub mod Rows
pub mod Slack
