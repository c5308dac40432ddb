pub mod Images
pub mod Taken
pub mod Turns
pub mod Merged
pub mod Refusals
pub mod Laws
