pub mod Tested
pub mod Walks
pub mod Marked
pub mod Climbs
pub mod Places
pub mod Keys
pub mod Meets
pub mod Agrees
