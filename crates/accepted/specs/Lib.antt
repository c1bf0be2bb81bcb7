pub mod Opened
pub mod LineSent
pub mod OnScreen
