pub mod Engine
pub mod Meaning
pub mod Growth
