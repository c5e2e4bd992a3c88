pub mod Told
pub mod Pairs
pub mod Filling
