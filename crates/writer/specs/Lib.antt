pub mod Agree
pub mod Block
pub mod Many
pub mod Put
pub mod Trips
