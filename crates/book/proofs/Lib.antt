pub mod Text
pub mod Views
pub mod Readable
pub mod Sound
pub mod Parts
pub mod Extent
pub mod Laws
pub mod Answer
