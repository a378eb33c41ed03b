pub mod Digits
pub mod Fits
pub mod Named
