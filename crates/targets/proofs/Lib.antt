pub mod TargetLaws
pub mod TargetNodes
