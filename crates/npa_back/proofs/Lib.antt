pub mod Following
pub mod Low
pub mod Moving
pub mod PastNumbers
pub mod Problems
pub mod Receiving
pub mod ToldSets
pub mod Wholes
