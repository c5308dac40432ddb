pub mod Outers
pub mod Merged
pub mod Flipped
pub mod Ascending
pub mod Cells
