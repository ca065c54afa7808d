pub mod Number
pub mod Vertex
pub mod Triangles
pub use Rattle.gl_memory.specs.Segment
pub use Rattle.gl_tracked.specs.Element
pub use Rattle.fixed_transform.specs.Matrix
