pub mod Composed
pub mod EachEntry
pub mod Lists
pub mod Loops
pub mod HalfTexts
pub mod Spelt
pub mod AsSpelt
