pub mod Answers
pub mod Branches
pub mod Laws
pub mod Searches
pub mod Seen
pub mod Unifiers
