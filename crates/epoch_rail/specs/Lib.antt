pub mod Rings
pub mod Ends
pub mod Work
pub mod Rail
pub use Rattle.batch_rail.specs.Run
