pub mod Tops
pub mod Runs
pub mod Asks
pub mod Unique
