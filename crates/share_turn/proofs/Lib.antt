pub mod Totals
pub mod Histories
pub mod Takes
pub mod Keeping
pub mod Dealing
pub mod SeatLemmas
pub mod LawLemmas
