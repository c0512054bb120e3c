pub mod TwoFinds
