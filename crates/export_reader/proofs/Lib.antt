pub mod Firsts
pub mod Fits
pub mod Least
pub mod Listed
pub mod Untold
