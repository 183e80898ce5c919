pub mod Exact
pub mod Loads
pub mod Chains
