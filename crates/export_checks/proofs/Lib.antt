pub mod FirstFaults
pub mod Wholes
pub mod Words
