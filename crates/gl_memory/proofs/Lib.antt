pub mod Bytes
pub mod Writing
pub mod SlotBytes
pub mod Cuts
