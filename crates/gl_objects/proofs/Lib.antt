pub mod Tables
pub mod FreeNames
pub mod UsedNames
pub mod Histories
pub mod Parts
pub mod TexelBytes
pub mod InPlace
