pub mod Sources
pub mod Clipped
