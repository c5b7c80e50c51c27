-- The definitions that the contracts of `lent` cite.
pub mod Views
pub mod Calls
pub mod Kinds
pub mod Steps
