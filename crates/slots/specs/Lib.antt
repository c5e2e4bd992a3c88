pub mod Halves
pub mod Spots
pub mod Promises
