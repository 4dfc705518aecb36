pub mod Critical
pub mod Overlaps
pub mod Places
pub mod Theories
pub mod Verdict
