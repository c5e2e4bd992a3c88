pub mod Printed
pub mod Answers
pub mod Beside
pub mod Told
pub mod Checked
