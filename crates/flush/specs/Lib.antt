pub mod Lent
pub mod Rooms
pub mod Fits
pub mod Painted
