pub mod Added
pub mod Blanks
pub mod Clauses
pub mod Climbs
pub mod Depths
pub mod Laws
pub mod Readings
pub mod Spans
