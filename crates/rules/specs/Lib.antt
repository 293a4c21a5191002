pub mod Check
pub mod Ranges
pub mod States
pub mod Masks
pub mod Tiling
