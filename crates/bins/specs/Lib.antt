pub mod Bins
pub mod Sorting
pub mod Tokens
