-- The definitions that the contracts of `capi` cite.
pub mod Words
pub mod Units
pub mod Tables
pub mod Calls
pub mod Lines
pub mod Pages
pub mod Views
pub mod Stored
pub mod Kinds
