pub mod Ordered
pub mod Signed
pub mod OneSignature
pub mod Numbers
pub mod Fingerprinted
