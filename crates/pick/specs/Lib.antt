pub mod Keep
pub mod Pick
pub mod Only
pub mod Picked
pub mod Growth
