pub mod Decoded
pub mod Exactly
pub mod Growth
