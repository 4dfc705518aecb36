pub mod Sets
pub mod Told
