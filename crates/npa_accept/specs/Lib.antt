pub mod Fit
pub mod Parts
pub mod Unaccepted
