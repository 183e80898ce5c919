pub mod NodeRanges
pub mod Falling
pub mod MemberLaws
pub mod ChainLoop
