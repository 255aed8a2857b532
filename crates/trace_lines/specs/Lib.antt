pub mod Buffer
pub mod Holding
pub mod Lines
pub mod Reading
pub mod Standing
