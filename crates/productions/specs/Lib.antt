pub mod Desks
pub mod Naming
pub mod Following
