-- One law for each way through the reader's code.
pub mod Forks
pub mod Expressions
pub mod Commands
pub mod Closings
pub mod Contents
pub mod Bodies
pub mod Verdicts
