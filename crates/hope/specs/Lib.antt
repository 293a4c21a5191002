pub mod Hope
pub mod Meaning
