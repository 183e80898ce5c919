pub mod Search
pub mod GoodRecords
pub mod Texts
