pub mod Denied
pub mod Fitting
pub mod Pieces
