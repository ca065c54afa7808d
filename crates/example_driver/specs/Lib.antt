pub mod Alone
pub mod AnswersFirst
pub mod Counter
pub mod Laws
pub use Rattle.driver_trait.specs.Driver
pub use Rattle.driver_trait.specs.Reply
pub use Rattle.gl_tracked.specs.Step
pub use Rattle.replay_lines.specs.Lines
