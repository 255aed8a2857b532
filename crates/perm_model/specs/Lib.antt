pub mod Addresses
pub mod Allowed
pub mod Apis
pub mod Names
pub mod Rows
pub mod Texts
