pub mod Laws
pub mod Scrambles
pub mod States
