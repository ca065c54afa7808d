pub mod Running
pub mod Runs
pub mod BatchRuns
pub mod Journals
pub mod Lending
pub mod Keeping
pub mod Giving
