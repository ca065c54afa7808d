pub mod Words
pub mod SegmentLemmas
pub mod Spellings
pub mod Writing
pub mod Reading
pub mod Parsing
pub mod Packings
