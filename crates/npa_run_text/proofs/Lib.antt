pub mod Tables
pub mod RunLaws
