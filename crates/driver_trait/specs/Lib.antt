pub mod Reply
pub mod Output
pub mod Driver
pub mod Recorder
pub mod Recording
pub use Rattle.gl_words.specs.Call
pub use Rattle.gl_memory.specs.Segment
pub use Rattle.gl_tracked.specs.Reads
