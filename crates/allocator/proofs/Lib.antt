pub mod Entered
pub mod Drained
pub mod Unique
