pub mod Sources
pub mod Aims
pub mod Statuses
pub mod Showing
