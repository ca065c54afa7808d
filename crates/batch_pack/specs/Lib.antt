pub mod Spelling
pub mod Decoding
pub mod Batch
pub mod Heading
pub mod Holding
pub mod Packed
pub use Rattle.gl_words.specs.Call
pub use Rattle.gl_words.specs.Slots
