pub mod IntLaws
pub mod WordLaws
pub mod FloatLaws
pub mod RoundTrips
pub mod DecimalLaws
pub mod Examples
