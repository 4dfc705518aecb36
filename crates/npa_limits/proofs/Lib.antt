pub mod LimitLaws
pub mod TallyLaws
pub mod KeptLimits
