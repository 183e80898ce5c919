pub mod Evaluate
pub mod Answering
