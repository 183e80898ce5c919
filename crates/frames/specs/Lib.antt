pub mod Calls
pub mod Loops
