pub mod Ascending
pub mod OrderLaws
pub mod EntryLaws
pub mod WordLaws
