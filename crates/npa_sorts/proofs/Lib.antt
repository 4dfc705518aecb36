pub mod Steps
pub mod TableLemmas
pub mod Lowers
pub mod Climbs
pub mod Grown
pub mod LowerLaws
