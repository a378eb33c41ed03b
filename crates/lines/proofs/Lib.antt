pub mod Laws
pub mod Shown
pub mod Found
