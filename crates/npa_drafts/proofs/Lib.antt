pub mod Adding
pub mod Apart
pub mod Labelled
pub mod Occurring
