pub mod Kept
pub mod Mend
pub mod Answers
pub mod Made
pub mod Closed
pub mod Growth
