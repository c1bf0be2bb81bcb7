pub mod Masks
pub mod Raster
