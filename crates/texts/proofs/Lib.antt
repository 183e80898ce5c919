pub mod Parts
pub mod OkOr
pub mod TextLaws
pub mod Joins
