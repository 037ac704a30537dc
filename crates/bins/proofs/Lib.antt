pub mod Climbing
pub mod Kept
pub mod Meant
pub mod Rows
mod Scans
pub mod Sorted
