pub mod Status
pub use Rattle.script_reader.specs.Limits
pub use Rattle.batch_pack.specs.Batch
pub use Rattle.replay_lines.specs.Limits as LineLimits
