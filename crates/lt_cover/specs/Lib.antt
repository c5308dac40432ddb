pub mod Gram
pub mod Covers
pub mod Long
pub mod Laws
