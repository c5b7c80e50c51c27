-- The definitions that the contracts of `attribute` cite.
pub mod Forms
pub mod Value
pub mod Padded
pub mod Read
pub mod Skip
pub mod Attributes
pub mod Parts
pub mod Steps
pub mod Ask
pub mod Views
