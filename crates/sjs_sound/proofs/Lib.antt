pub mod ExprRows
pub mod ForRows
pub mod ListRows
pub mod Meanings
pub mod OperandRows
pub mod Sound
pub mod StmtRows
