pub mod Sending
pub mod Opening
pub mod Painting
pub mod Poking
pub mod Screens
