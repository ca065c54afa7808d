pub mod Segment
pub mod ClientMemory
pub mod Piece
pub mod Slots
pub mod Number
pub mod Laws
pub mod Room
