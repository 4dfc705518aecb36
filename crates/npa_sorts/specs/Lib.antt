pub mod Lowers
pub mod Subsorts
pub mod Table
