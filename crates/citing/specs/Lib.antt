pub mod Fields
pub mod Answers
pub mod Refusals
pub mod Alone
pub mod Grounds
pub mod Growth
