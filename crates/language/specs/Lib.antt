pub mod Trees
pub mod Grammar
pub mod Standing
pub mod Obeying
