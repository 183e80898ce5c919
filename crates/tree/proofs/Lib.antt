pub mod Roles
pub mod Below
pub mod Good
pub mod Counting
pub mod Marking
