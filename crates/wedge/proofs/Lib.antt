pub mod Exact
pub mod Wedges
