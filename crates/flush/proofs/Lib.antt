pub mod Walking
pub mod Painting
pub mod Entries
pub mod Fitting
pub mod Showing
pub mod Texts
pub mod Whole
pub mod Places
