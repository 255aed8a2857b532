pub mod Refused
pub mod Worked
