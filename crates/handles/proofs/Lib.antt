pub mod Changes
pub mod Grants
pub mod NeedTables
