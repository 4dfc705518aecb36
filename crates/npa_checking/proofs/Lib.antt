mod Asking
pub mod Counts
mod Joining
mod Numbering
pub mod OneLine
pub mod Statuses
mod Telling
