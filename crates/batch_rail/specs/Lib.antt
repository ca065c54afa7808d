pub mod Run
pub mod Rail
pub mod Maker
pub mod Part
pub mod Journal
pub mod Kept
pub use Rattle.batch_pack.specs.Batch
pub use Rattle.batch_pack.specs.Spelling
