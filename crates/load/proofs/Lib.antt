pub mod Filled
pub mod Obeying
