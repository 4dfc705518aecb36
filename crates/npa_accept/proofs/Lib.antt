pub mod Firsts
pub mod Heads
pub mod Own
pub mod Parts
pub mod Renaming
pub mod Sorting
pub mod Unifying
