pub mod Allowed
pub mod Four
pub mod Judged
pub mod Numbers
pub mod Order
pub mod Seen
