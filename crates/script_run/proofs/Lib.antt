pub mod Pieces
pub mod Writing
pub mod Running
pub mod Whole
pub mod Sizing
