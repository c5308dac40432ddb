pub mod Places
mod Gathered
mod Dimensions
pub mod First
mod Walls
pub mod Weighed
mod Facets
pub mod Bad
mod Crossed
mod Reasons
mod Ends
mod OnWay
