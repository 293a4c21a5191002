pub mod Alone
pub mod Grounds
pub mod Grown
pub mod Stops
pub mod Whys
