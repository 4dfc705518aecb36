pub mod Adding
pub mod Covered
pub mod Kept
pub mod Tested
pub mod Ways
pub mod Zipped
