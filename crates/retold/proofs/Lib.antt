pub mod Many
pub mod Whole
pub mod Own
pub mod Retold
