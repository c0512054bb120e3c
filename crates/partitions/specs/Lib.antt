pub mod Leaders
pub mod Trials
pub mod LeaderLaws
pub mod TrialLaws
