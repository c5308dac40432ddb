pub mod Factors
pub mod Pictures
pub mod Products
pub mod Standing
pub mod Turns
