pub mod Shown
pub mod Texts
pub mod Verdicts
pub mod Answers
