pub mod Kept
mod Nearby
mod NearBins
mod NearClauses
mod NearFlows
pub mod NearFile
