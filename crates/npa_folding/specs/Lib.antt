pub mod Equality
pub mod Folding
