pub mod Texts
pub mod Digits
pub mod Parts
pub mod Counting
