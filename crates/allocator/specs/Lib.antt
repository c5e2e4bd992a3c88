pub mod Entries
pub mod Drained
pub mod Calls
