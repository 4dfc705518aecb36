pub mod Cutting
pub mod Following
pub mod Judging
pub mod Unifying
