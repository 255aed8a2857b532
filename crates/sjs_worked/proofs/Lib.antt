pub mod ReadShown
pub mod RefusedShown
