pub mod Answering
pub mod Cuts
pub mod FirstLine
pub mod LineEnds
pub mod Shown
pub mod Waiting
