pub mod CallLaws
pub mod LoopLaws
