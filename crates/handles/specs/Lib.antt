pub mod Handles
pub mod NeedTable
