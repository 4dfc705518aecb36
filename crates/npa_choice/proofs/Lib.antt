pub mod Completing
pub mod Crowding
pub mod Holding
pub mod Matched
pub mod Places
