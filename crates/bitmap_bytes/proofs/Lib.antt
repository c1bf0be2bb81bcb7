pub mod Copies
pub mod Drawn
