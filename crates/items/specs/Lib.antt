pub mod Gathering
pub mod Items
