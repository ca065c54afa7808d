pub mod Verdicts
pub use Rattle.script_reader.specs.Grammar
pub use Rattle.script_reader.specs.Limits
