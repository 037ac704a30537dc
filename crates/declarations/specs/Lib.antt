pub mod Counters
pub mod Tests
pub mod Tokens
