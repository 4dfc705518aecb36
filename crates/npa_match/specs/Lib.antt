pub mod Branches
pub mod Matching
pub mod Search
