pub mod Goes
pub mod Keeps
pub mod Frees
pub mod Downwards
pub mod Rounds
pub mod Served
pub mod FirstGiven
pub mod Unique
