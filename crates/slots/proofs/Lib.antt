pub mod Finds
pub mod Bits
pub mod Counts
pub mod Complement
pub mod Occupied
pub mod Steps
pub mod Going
pub mod Unique
