pub mod HeadingLaws
pub mod LinesRead
pub mod PartsFound
pub mod Spans
