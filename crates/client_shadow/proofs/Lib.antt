pub mod Batching
pub mod Classes
pub mod Capturing
