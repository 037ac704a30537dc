pub mod Faults
pub mod Terminals
pub mod Spelling
pub mod Scanning
pub mod Answers
pub mod Reading
