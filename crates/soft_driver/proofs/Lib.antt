mod Frames
mod Replies
mod Steps
mod Drawings
mod Books
mod Events
mod StoredBytes
mod NoEvents
pub mod Readings
