pub mod Loading
pub mod Law
