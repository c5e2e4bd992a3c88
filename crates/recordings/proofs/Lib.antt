pub mod Turns
pub mod WholeLines
pub mod Limits
pub mod Results
pub mod ReadOn
pub mod OneByte
