pub mod Flushing
pub mod Clearing
pub mod Blinking
pub mod Printing
