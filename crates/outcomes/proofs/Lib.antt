pub mod Ways
pub mod NodeLaws
pub mod KindLaws
