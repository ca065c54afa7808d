pub mod Parts
pub mod Covering
pub mod Bounds
pub mod Drawing
pub mod Naming
