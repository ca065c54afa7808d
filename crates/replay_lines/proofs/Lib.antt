pub mod Countings
pub mod LinesLemmas
pub mod Risings
pub mod RunLemmas
pub mod Taking
