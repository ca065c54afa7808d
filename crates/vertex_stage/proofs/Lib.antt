pub mod Agreement
pub mod Bounds
