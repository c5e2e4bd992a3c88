pub mod Machine
pub mod Entries
pub mod Survey
pub mod Work
pub mod Recorded
