pub mod Slots
pub mod Rows
