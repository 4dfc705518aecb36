pub mod Walks
pub mod Answering
