pub mod Grammar
pub mod InRange
pub mod Kinds
pub mod Tokens
