pub mod Beside
pub mod Kept
pub mod Leaving
