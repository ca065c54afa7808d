pub mod Pieces
pub mod Law
pub use Rattle.gl_memory.specs.Segment
pub use Rattle.gl_memory.specs.Piece
pub use Rattle.gl_tracked.specs.Element
pub use Rattle.gl_tracked.specs.Ranges
pub use Rattle.gl_tracked.specs.Tracked
