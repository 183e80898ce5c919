pub mod Run
pub mod Lent
pub mod View
pub mod Stores
pub mod Finding
pub mod Pending
