pub mod Pixels
pub mod Reading
pub mod Drawing
pub mod Own
pub mod Renderer
pub mod Agreements
pub mod Soft
pub mod Law
pub mod Book
pub use Rattle.fragment_ops.specs.Frame
pub use Rattle.gl_state.specs.Private
pub use Rattle.gl_state.specs.Step
pub use Rattle.driver_trait.specs.Driver
pub use Rattle.gl_objects.specs.History
pub use Rattle.gl_objects.specs.Step as ObjectsStep
