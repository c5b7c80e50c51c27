-- Laws that several proofs cite; callers of `abbrev` use those of Lookups and Bounds.
pub mod Columns
pub mod Attributes
pub mod Tables
pub mod Bounds
pub mod Fairs
pub mod Laying
pub mod Lookups
pub mod Chunks
