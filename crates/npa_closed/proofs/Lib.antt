pub mod Aimed
pub mod Alike
pub mod AnyUnifier
pub mod Descent
pub mod Unreached
