pub mod Gates
pub mod Nearest
pub mod Exact
pub mod Codes
pub mod Telling
pub mod Rows
pub mod Counting
pub mod Numbers
