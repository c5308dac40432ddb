pub mod Filled
pub mod Normals
pub mod Lowered
pub mod Rows
pub mod Decided
pub mod Laws
