pub mod Post
pub mod Outcomes
pub mod Lent
