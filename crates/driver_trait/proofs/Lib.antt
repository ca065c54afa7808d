pub mod Recordings
pub mod Outputs
