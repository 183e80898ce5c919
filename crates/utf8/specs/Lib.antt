pub mod Utf8
pub mod Grammar
pub mod Leads
pub mod Runs
