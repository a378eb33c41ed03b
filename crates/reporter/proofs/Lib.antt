pub mod AllBelow
pub mod Ways
pub mod Promised
