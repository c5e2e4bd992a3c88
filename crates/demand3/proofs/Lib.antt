pub mod Reported
pub mod Frame
pub mod Ran
pub mod Beside
pub mod Demand3
pub mod Together
pub mod Agreed
