pub mod Here
pub mod Numbers
pub mod Faults
pub mod Taken
pub mod Parts
pub mod Contents
pub mod Counted
pub mod Verdict
