pub mod Fault
pub mod Fields
pub mod ListOf
pub mod Numbers
pub mod Objects
pub mod Params
pub mod Words
