pub mod Reading
pub mod Matching
pub mod Bounding
pub mod Choosing
pub mod Splitting
