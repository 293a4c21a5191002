pub mod Step
pub mod Reading
pub mod Exactly
pub mod Growth
pub mod Tiling
pub mod Take
