mod Parities
mod Values
mod Unique
