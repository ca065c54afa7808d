pub mod Formats
pub mod Sides
pub mod Coordinates
pub mod Weights
pub mod Samples
pub mod Parts
