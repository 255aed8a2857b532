pub mod Alongs
