pub mod Index
pub mod Forms
pub mod Answer
pub mod Making
