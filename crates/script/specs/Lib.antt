pub mod Meaning
pub mod Lines
