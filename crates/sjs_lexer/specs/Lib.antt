pub mod Characters
pub mod Digits
pub mod Escapes
pub mod Found
pub mod Reading
pub mod Spans
pub mod TextEnds
pub mod Tokens
