pub mod Cuttings
pub mod Fronts
pub mod Failures
pub mod Captures
pub mod Takings
