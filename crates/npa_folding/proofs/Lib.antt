pub mod Equalities
pub mod Lawfulness
