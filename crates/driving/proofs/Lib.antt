pub mod Theorem
pub mod InAnyOrder
pub mod Witnesses
