pub mod Forest
pub mod Hints
pub mod Journal
pub mod Log
pub mod Store
pub mod Table
pub mod Work
