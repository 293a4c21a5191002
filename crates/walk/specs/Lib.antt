pub mod Due
pub mod After
pub mod Hope
