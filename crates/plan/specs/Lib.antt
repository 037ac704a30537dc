pub mod Values
pub mod Drafts
pub mod Meaning
pub mod Rules
pub mod Finding
pub mod Plans
