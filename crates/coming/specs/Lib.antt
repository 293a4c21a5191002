pub mod Moments
pub mod Radials
