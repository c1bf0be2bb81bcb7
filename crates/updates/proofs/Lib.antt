pub mod Updating
pub mod Heads
pub mod Drawing
pub mod Kept
