pub mod Listed
pub mod Led
pub mod Filling
pub mod Meaning
pub mod Grown
pub mod Tellings
