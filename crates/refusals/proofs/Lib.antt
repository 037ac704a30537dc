pub mod Passing
pub mod Repeating
pub mod Spelled
