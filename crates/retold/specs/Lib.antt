pub mod Many
pub mod Retold
