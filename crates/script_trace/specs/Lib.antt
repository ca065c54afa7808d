pub mod Cause
pub mod Errors
pub mod OpenBatch
pub mod Entries
pub mod Keeping
pub mod Tallies
pub mod Law
pub use Rattle.client_shadow.specs.Class
pub use Rattle.client_shadow.specs.Cutting
pub use Rattle.script_reader.specs.Limits
pub use Rattle.replay_lines.specs.Limits as LineLimits
pub use Rattle.replay_core.specs.Calls
pub use Rattle.replay_core.specs.Direct
pub use Rattle.replay_core.specs.Journals
pub use Rattle.replay_core.specs.Script
