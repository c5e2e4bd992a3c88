pub mod Promises
pub mod Together
