pub mod Chars
pub mod Leads
pub mod Grammar
pub mod Runs
