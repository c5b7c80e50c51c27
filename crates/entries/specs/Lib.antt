-- The definitions that the contracts of `entries` cite.
pub mod Entry
pub mod Read
pub mod Raw
pub mod Pass
pub mod Cursor
pub mod Flat
pub mod Open
pub mod Steps
pub mod Views
pub mod Opened
