pub mod Relevant
pub mod Shortest
pub mod Laws
