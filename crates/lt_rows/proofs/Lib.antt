pub mod PlaneNormals
pub mod Candidates
pub mod Parts
