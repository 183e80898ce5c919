pub mod Page
pub mod Shown
