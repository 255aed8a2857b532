pub mod Breaks
pub mod Container
pub mod FirstBroken
pub mod Rules
