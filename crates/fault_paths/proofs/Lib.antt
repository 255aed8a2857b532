pub mod Escapes
pub mod Leading
pub mod Places
