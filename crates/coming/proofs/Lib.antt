pub mod Counts
pub mod Filling
pub mod Choices
pub mod Steps
pub mod Numbers
pub mod Radials
