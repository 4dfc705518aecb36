pub mod Later
pub mod Limits
pub mod Tallies
pub mod Within
