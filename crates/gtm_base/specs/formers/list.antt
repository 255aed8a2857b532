pub mod ListOf
