pub mod Depths
pub mod Putting
pub mod Areas
pub mod Cells
pub mod Shades
mod Texturing
pub mod Alike
pub mod RowChanges
pub mod Culling
pub mod DrawChanges
pub mod DrawReads
