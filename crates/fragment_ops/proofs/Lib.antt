pub mod Changes
pub mod Rows
pub mod Places
pub mod Keeping
pub mod Scissors
pub mod FrameChanges
pub mod Runs
pub mod Laying
