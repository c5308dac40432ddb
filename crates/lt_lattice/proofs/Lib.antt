pub mod Coordinates
pub mod Dots
pub mod Filled
pub mod Inverses
pub mod Lengths
pub mod Places
pub mod Padded
pub mod Products
