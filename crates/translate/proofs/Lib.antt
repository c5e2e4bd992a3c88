pub mod Written
pub mod Titled
pub mod Going
pub mod Left
pub mod Numbers
