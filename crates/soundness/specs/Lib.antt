pub mod Parts
pub mod Canonical
