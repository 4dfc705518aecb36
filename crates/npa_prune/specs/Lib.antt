pub mod Pruned
pub mod Repeating
