pub mod Settings
pub mod Stacks
pub mod Images
pub mod Private
pub mod Event
pub mod Gets
pub mod Step
pub use Rattle.fixed_transform.specs.Matrix
pub use Rattle.fragment_ops.specs.Frame
pub use Rattle.fragment_ops.specs.State
pub use Rattle.gl_objects.specs.Event as ObjectsEvent
pub use Rattle.gl_tracked.specs.Tracked
pub use Rattle.texture_units.specs.Format
pub use Rattle.texture_units.specs.Texture
