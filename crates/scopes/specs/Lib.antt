pub mod View
pub mod Sound
pub mod Leaves
pub mod Steps
