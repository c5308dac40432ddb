pub mod Images
pub mod Bases
pub mod Matches
pub mod Wide
pub mod Beyond
