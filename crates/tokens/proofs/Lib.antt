pub mod Runs
pub mod Fractions
pub mod Complete
pub mod Gaps
pub mod Fronts
pub mod Readings
