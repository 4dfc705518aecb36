pub mod Early
pub mod Offering
pub mod Testing
