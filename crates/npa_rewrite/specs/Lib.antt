pub mod Innermost
pub mod Rewriting
pub mod Reducing
pub mod Lightening
pub mod Stepping
pub mod Normal
pub mod Accepted
pub mod Theories
