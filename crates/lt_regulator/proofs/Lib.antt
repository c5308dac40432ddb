mod Numbered
mod Excesses
mod Tested
mod Near
mod Positive
pub mod Collected
mod Listed
pub mod Distinct
