pub mod First
pub mod Records
