-- The definitions that the contracts of `reader` cite.
pub mod Answer
pub mod Errors
pub mod Sizes
pub mod Words
pub mod Twos
pub mod Leb128
pub mod Padded
pub mod Fields
pub mod Limits
pub mod Views
pub mod Sound
pub mod Parts
