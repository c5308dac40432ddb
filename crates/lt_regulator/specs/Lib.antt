pub mod Regulated
pub mod Signed
