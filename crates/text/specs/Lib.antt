pub mod Shapes
pub mod Refused
pub mod Lines
pub mod Titles
pub mod Writing
pub mod Whole
pub mod Table
