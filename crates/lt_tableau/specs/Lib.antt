pub mod Numbers
pub mod Table
pub mod System
pub mod Kept
pub mod Errors
pub mod Turns
