pub mod Words
pub mod Ints
pub mod Floats
pub mod Decimal
