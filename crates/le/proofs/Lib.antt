pub mod Laws
pub mod Tests
pub mod Here
pub mod Coded
