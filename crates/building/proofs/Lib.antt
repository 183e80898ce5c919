pub mod MakingLaws
pub mod ChainLaws
pub mod ObjectLaws
pub mod ObjectMade
pub mod TemplateLaws
pub mod TemplateMade
