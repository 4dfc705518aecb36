pub mod Checks
pub mod Fresh
