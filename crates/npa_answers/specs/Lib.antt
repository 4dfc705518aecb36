pub mod Commands
pub mod Lines
pub mod Modules
pub mod Answers
