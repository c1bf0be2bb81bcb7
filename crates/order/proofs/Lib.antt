pub mod Theorem
pub mod Witnesses
