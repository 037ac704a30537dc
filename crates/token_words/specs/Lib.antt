pub mod Excerpt
pub mod Listing
