pub mod Views
pub mod Numbers
pub mod Regions
pub mod Chains
pub mod Counted
pub mod PendingLaws
pub mod FoundLaws
