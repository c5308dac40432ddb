pub mod Texts
pub mod Gathered
pub mod Example
pub mod Values
