pub mod Bits
pub mod Pouring
pub mod Written
pub mod Places
