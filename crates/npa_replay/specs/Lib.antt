pub mod Choices
pub mod Executions
pub mod Groups
pub mod Held
pub mod Replays
