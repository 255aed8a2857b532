pub mod FormKeys
pub mod Forms
pub mod Lines
pub mod Steps
pub mod Views
