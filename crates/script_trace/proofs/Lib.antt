pub mod Causes
pub mod Ends
pub mod Going
pub mod Meeting
pub mod Recording
pub mod Tallying
pub mod Tracing
