pub mod Says
pub mod Fields
pub mod Listed
