pub mod Ascii
pub mod Cuts
pub mod Fitting
pub mod Fronts
pub mod Hearing
pub mod Pairs
pub mod Within
