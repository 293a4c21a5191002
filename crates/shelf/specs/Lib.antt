pub mod Import
pub mod Settled
pub mod Brought
pub mod Order
pub mod Growth
